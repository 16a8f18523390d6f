mod Crossing
mod TableLemmas
