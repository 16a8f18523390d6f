-- What is said of an argument that is a list, by its items.
use Rattle.std.proofs.Common.{◌≡◌, ◌∙◌, ℕ, List, [], ◌∷◌, map, Some, Option, option_map, option_and_then, slice_get, sym, ap}
use Rattle.std.specs.List.{flat_map}
use Rattle.lio_clauses.specs.FormulaText.{shown}
use Rattle.lio_clauses.specs.Names.{number_of}
use Rattle.lio_policy.specs.Rules.{all_there, labelled_step, labelled_arg, entry_step, arg_entry, channel_arg}
use Rattle.lio_values.specs.Measures.{tree_size}
use Rattle.lio_values.specs.Views.{tree_of}
use Rattle.lio_values.specs.declared.value.Plain.{Plain}
use Rattle.lio_policy.specs.Lists.{singles_step, singles, input_size, extent_step, extent, in_all, list_extent}
use Rattle.lio_policy.specs.declared.arguments.Known.{Known}
use Rattle.lio_policy.specs.declared.lists.ArgExtent.{ArgExtent}
use Rattle.lio_policy_draft.specs.declared.draft.ArgDraft.{ArgDraft}
use Rattle.lio_policy_draft.specs.declared.draft.ArgDraft.TheVariants as draft
use Rattle.lio_policy_draft.specs.declared.draft.ArgDraft.TheOpen.{ArgDraft-F}
use Rattle.lio_policy_draft.specs.declared.draft.ArgDraft.TheFolds.{fold-roll-ArgDraft}
use Rattle.lio_policy.specs.declared.labelled.LabelledArg.{LabelledArg}
use Rattle.lio_policy.specs.declared.labelled.LabelledArg.TheVariants as labelled
use Rattle.lio_policy.specs.declared.labelled.LabelledArg.TheOpen.{LabelledArg-F}
use Rattle.lio_policy.specs.declared.labelled.LabelledArg.TheFolds.{fold-roll-LabelledArg}
use Rattle.lio_policy.specs.declared.policy.FileEntry.{FileEntry}
use Rattle.lio_policy.specs.declared.policy.Arg.{Arg}
use Rattle.lio_policy.specs.declared.policy.Arg.TheVariants as arg
use Rattle.lio_policy.specs.declared.policy.Arg.TheOpen.{Arg-F}
use Rattle.lio_policy.specs.declared.policy.Arg.TheFolds.{fold-roll-Arg}

pub labelled-items : (names : List (List ℕ)) (args : List ArgDraft) → labelled_arg names (draft.Items args) ≡ option_map labelled.Items (all_there (map (labelled_arg names) args))
labelled-items names args = ap (labelled_arg names) (sym (draft.rolls-Items args)) ∙ fold-roll-ArgDraft (Option LabelledArg) (labelled_step names) (ArgDraft-F.Items args)

pub entry-items : (k : Known) (args : List LabelledArg) → arg_entry k (labelled.Items args) ≡ option_map arg.Items (all_there (map (arg_entry k) args))
entry-items k args = ap (arg_entry k) (sym (labelled.rolls-Items args)) ∙ fold-roll-LabelledArg (Option Arg) (entry_step k) (LabelledArg-F.Items args)

pub singles-items : (args : List Arg) → singles (arg.Items args) ≡ flat_map (λ (s : List Arg). s) (map singles args)
singles-items args = ap singles (sym (arg.rolls-Items args)) ∙ fold-roll-Arg (List Arg) singles_step (Arg-F.Items args)

pub extent-items : (inputs : List FileEntry) (args : List Arg) → extent inputs (arg.Items args) ≡ list_extent (in_all (map (extent inputs) args))
extent-items inputs args = ap (extent inputs) (sym (arg.rolls-Items args)) ∙ fold-roll-Arg ArgExtent (extent_step inputs) (Arg-F.Items args)

pub entry-channel : (k : Known) (name : List ℕ) → arg_entry k (labelled.Channel name) ≡ option_and_then (λ n. option_map (channel_arg n) (slice_get k.channels n)) (number_of k.channel_names name)
entry-channel k name = ap (arg_entry k) (sym (labelled.rolls-Channel name)) ∙ fold-roll-LabelledArg (Option Arg) (entry_step k) (LabelledArg-F.Channel name)

pub entry-input : (k : Known) (name : List ℕ) → arg_entry k (labelled.Input name) ≡ option_map (λ n. arg.Input (shown n)) (number_of k.input_names name)
entry-input k name = ap (arg_entry k) (sym (labelled.rolls-Input name)) ∙ fold-roll-LabelledArg (Option Arg) (entry_step k) (LabelledArg-F.Input name)

pub entry-fixed : (k : Known) (value : Plain) → arg_entry k (labelled.Fixed value) ≡ Some (arg.Fixed value)
entry-fixed k value = ap (arg_entry k) (sym (labelled.rolls-Fixed value)) ∙ fold-roll-LabelledArg (Option Arg) (entry_step k) (LabelledArg-F.Fixed value)

pub singles-input : (place : ℕ) → singles (arg.Input place) ≡ arg.Input place ∷ []
singles-input place = ap singles (sym (arg.rolls-Input place)) ∙ fold-roll-Arg (List Arg) singles_step (Arg-F.Input place)

pub singles-fixed : (value : Plain) → singles (arg.Fixed value) ≡ arg.Fixed value ∷ []
singles-fixed value = ap singles (sym (arg.rolls-Fixed value)) ∙ fold-roll-Arg (List Arg) singles_step (Arg-F.Fixed value)

pub extent-fixed : (inputs : List FileEntry) (value : Plain) → extent inputs (arg.Fixed value) ≡ record { depth = 0; size = tree_size (tree_of value); inputs = 0 }
extent-fixed inputs value = ap (extent inputs) (sym (arg.rolls-Fixed value)) ∙ fold-roll-Arg ArgExtent (extent_step inputs) (Arg-F.Fixed value)

pub extent-input : (inputs : List FileEntry) (place : ℕ) → extent inputs (arg.Input place) ≡ record { depth = 0; size = input_size inputs place; inputs = 1 }
extent-input inputs place = ap (extent inputs) (sym (arg.rolls-Input place)) ∙ fold-roll-Arg ArgExtent (extent_step inputs) (Arg-F.Input place)
