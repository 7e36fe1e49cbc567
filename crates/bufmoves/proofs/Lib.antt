pub mod SweepLaws
pub mod BackLaws
pub mod ExchangeLaws
pub mod WholeLaws
