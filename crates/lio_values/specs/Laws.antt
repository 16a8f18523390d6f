-- The laws of erasure: erasing twice at one label is erasing once, and erasing at a lower label after a higher one is erasing at the lower
-- (the erasure of the concurrent calculus of LIO, ICFP 2012).
use Rattle.std.specs.Prelude.{◌≡◌, IsTrue}
use Rattle.lio_labels.specs.declared.label.Label.{Label}
use Rattle.lio_labels.specs.Flow.{flows}
use Rattle.lio_values.specs.declared.value.Value.{Value}
use Rattle.lio_values.specs.declared.entry.Entry.{Entry}
use Rattle.lio_values.specs.Erasure.{erase_value, erase_entry}

abbrev pub ValueErasedTwice : Type 0
ValueErasedTwice = (observer : Label) (value : Value) → erase_value observer (erase_value observer value) ≡ erase_value observer value

abbrev pub ValueErasedBelow : Type 0
ValueErasedBelow = (lower higher : Label) (value : Value) → IsTrue (flows lower higher) → erase_value lower (erase_value higher value) ≡ erase_value lower value

abbrev pub EntryErasedTwice : Type 0
EntryErasedTwice = (observer : Label) (entry : Entry) → erase_entry observer (erase_entry observer entry) ≡ erase_entry observer entry

abbrev pub EntryErasedBelow : Type 0
EntryErasedBelow = (lower higher : Label) (entry : Entry) → IsTrue (flows lower higher) → erase_entry lower (erase_entry higher entry) ≡ erase_entry lower entry
