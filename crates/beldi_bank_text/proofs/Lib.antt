pub mod Actions
mod Read
mod TextLines
mod TextWords
mod Transfers
