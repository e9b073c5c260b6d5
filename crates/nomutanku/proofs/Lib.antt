mod Causes
mod Checked
mod CommandLine
mod Extracted
mod Merged
mod Said
mod Told
mod Words
