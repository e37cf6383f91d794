mod Takings
mod Steps
mod Raises
