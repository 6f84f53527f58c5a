mod DieLemmas
mod ResetLemmas
mod SizeLemmas
