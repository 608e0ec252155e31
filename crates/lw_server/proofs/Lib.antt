mod Handling
mod Keeping
mod Marking
mod Numbers
mod Reached
mod Sorting
mod Steps
mod Turns
