pub mod ExchangeSteps
