mod Causes
mod JobLemmas
mod Numbering
mod Reaching
mod Keeping
