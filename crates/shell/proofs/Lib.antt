mod Given
mod Talking
