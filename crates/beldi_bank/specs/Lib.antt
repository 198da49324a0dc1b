pub mod Bank
pub mod BankLaws
