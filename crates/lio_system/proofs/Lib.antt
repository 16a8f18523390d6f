mod KnownLemmas
mod PiecesLemmas
