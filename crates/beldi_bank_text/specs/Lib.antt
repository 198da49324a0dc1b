pub mod BankText
