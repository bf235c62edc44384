mod Overlaid
mod Starts
