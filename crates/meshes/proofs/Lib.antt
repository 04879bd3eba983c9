-- What is no function's proof: that no second outcome fits a contract.
pub mod OneAnswer
