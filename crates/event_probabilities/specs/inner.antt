pub mod EventRates
