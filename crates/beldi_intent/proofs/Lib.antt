pub mod Intents
mod Names
