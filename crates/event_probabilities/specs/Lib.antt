pub mod EventRates
pub mod inner
