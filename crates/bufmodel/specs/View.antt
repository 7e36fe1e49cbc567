-- The memory that is lent as a view of the pool, or to change.
use Rattle.std.specs.Prelude.{◌≡◌}
use Rattle.bufmodel.specs.declared.view.PoolView.{PoolView}
use Rattle.bufmodel.specs.declared.view.SlicesMut.{SlicesMut}
use Rattle.bufmodel.specs.declared.control.Control.{Control}
use Rattle.bufmodel.specs.Memory.{Memory, memory, with_counts}

abbrev pub memory_of : PoolView → Memory
memory_of v =
    with_counts v.counts.now
    (memory v.control v.states.now v.names.now v.pool.now v.free.now v.heads.now v.chain.now v.rows.now v.store.now)

abbrev pub memory_in : Control → SlicesMut → Memory
memory_in control v =
    with_counts v.counts.now
    (memory control v.states.now v.names.now v.pool.now v.free.now v.heads.now v.chain.now v.rows.now v.store.now)

-- That a call which is lent them changes what they hold, and puts no other loans in their place.
abbrev pub SameLoans : SlicesMut → SlicesMut → Type 0
SameLoans v w = (v.states.ghost_name ≡ w.states.ghost_name) × (v.names.ghost_name ≡ w.names.ghost_name)
    × (v.pool.ghost_name ≡ w.pool.ghost_name) × (v.free.ghost_name ≡ w.free.ghost_name)
    × (v.heads.ghost_name ≡ w.heads.ghost_name) × (v.chain.ghost_name ≡ w.chain.ghost_name)
    × (v.rows ≡ w.rows) × (v.store.ghost_name ≡ w.store.ghost_name) × (v.counts.ghost_name ≡ w.counts.ghost_name)
