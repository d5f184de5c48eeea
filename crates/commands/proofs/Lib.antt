mod Choosing
mod Numbers
mod Splits
