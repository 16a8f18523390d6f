use Rattle.std.proofs.Common.{◌≡◌, ◌++◌, take}
use Rattle.lio_values.specs.ForestText.{items_text}
use Rattle.lio_values.specs.Views.{forest_of}
use Rattle.lio_values.proofs.ListTextLemmas.{joint}
use Rattle.lio_values.proofs.print_values.+append.Given as goal

-- the items so far stand behind what was there, and what comes before the next one is known
abbrev pub invariant-append_items-loop-value : goal.invariant-append_items-loop-value
invariant-append_items-loop-value l =
    (l.out.items ≡ l.fn.out.items ++ items_text l.names (forest_of (take l.value-index l.value-items))) × (l.between ≡ joint (take l.value-index l.value-items))
