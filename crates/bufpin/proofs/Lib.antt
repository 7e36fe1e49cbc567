pub mod VictimBackLaws
pub mod SweptLaws
pub mod TakenLaws
pub mod VictimLaws
pub mod NewLaws
pub mod PinLaws
pub mod SeenLaws
