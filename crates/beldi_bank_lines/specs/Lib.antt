pub mod BankLines
