mod Answering
mod Kept
mod RowTexts
