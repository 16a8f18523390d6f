pub mod OperandLemmas
pub mod ProcedureLemmas
