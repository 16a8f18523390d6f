-- The fault of a text for the fault of a formula.
use Rattle.lio_clauses.specs.declared.faults.FormFault.{FormFault}
use Rattle.lio_clauses.specs.declared.faults.FormFault.TheVariants as form
use Rattle.lio_clauses.specs.declared.faults.TextFault.{TextFault}
use Rattle.lio_clauses.specs.declared.faults.TextFault.TheVariants as text

-- why a text whose formula is not made is not read
abbrev pub text_fault : FormFault → TextFault
text_fault form.Wide = text.Wide
text_fault form.NoMemory = text.NoMemory
