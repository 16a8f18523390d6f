mod ItemLemmas
mod BundleLemmas
mod AloneLemmas
mod LawLemmas
mod ReplyLemmas
mod SureLemmas
