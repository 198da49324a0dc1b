mod Ending
mod Old
mod Sound
mod Sweeping
