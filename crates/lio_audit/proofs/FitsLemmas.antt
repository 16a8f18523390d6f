-- The entries of a view are over the names where those of the journal are.
use Rattle.std.proofs.Common.{◌≡◌, refl, sym, ap, subst, ℕ, suc, ◌+◌, ◌<◌, ◌≤◌, ◌^◌, Bool, true, false, List, [], ◌∷◌, length, length-append, All, Option, Some, None, map, cond, max, arith}
use Rattle.std.specs.Option.{option_map}
use Rattle.std.proofs.lemmas.List.Elements.{All-nil, All-cons, All-head, All-tail, All-map}
use Rattle.lio_labels.specs.declared.label.Label.{Label}
use Rattle.lio_labels.specs.Flow.{flows}
use Rattle.lio_values.specs.declared.value.Content.{Content}
use Rattle.lio_values.specs.declared.value.Content.TheVariants.{Hidden}
use Rattle.lio_values.specs.declared.value.Value.{Value}
use Rattle.lio_values.specs.declared.value.Value.TheVariants.{Bare, Sealed}
use Rattle.lio_values.specs.declared.act.Act.{Act}
use Rattle.lio_values.specs.declared.act.Act.TheVariants.{Step, Seal, Raise, Lower, Release, Expose, NewRef, NewVar, Fork, Spawn, Read, Write, Take, Put, Wait, Send, Ended}
use Rattle.lio_values.specs.declared.act.Birth.{Birth}
use Rattle.lio_values.specs.declared.act.Reply.{Reply}
use Rattle.lio_values.specs.declared.act.Reply.TheVariants.{Done, Got, Told, Refused}
use Rattle.lio_values.specs.declared.entry.Entry.{Entry}
use Rattle.std.specs.Prelude.{if◌then◌else◌}
use Rattle.lio_values.specs.Forest as forest
use Rattle.lio_values.specs.Forest.{Tree, Inner, Item, Forest, Nothing, Then, tree_depth, item_depth, deepest}
use Rattle.lio_values.specs.Views.{tree_of, tree_of-plain_of}
use Rattle.lio_values.specs.Erasure.{erase_tree, erase_item, erase_forest, erase_act, erase_birth, erase_content, erase_entry, erase_reply, erase_value}
use Rattle.lio_events.specs.JournalText.{entry_text, journal_text}
use Rattle.lio_events.specs.Views.{view}
use Rattle.lio_events.proofs.PrintableLemmas.{erased_is_printable}
use Rattle.lio_events.proofs.ViewLemmas.{view-none, view-seen, view-unseen}
use Rattle.lio_events_reading.specs.Fits.{ActFits, BirthFits, ContentFits, InnerFits, ItemFits, ItemsFit, OptionFits, ReplyFits, TreeFits, ValueFits}
use Rattle.lio_events_reading.specs.Over.{IsEntryOver}
use Rattle.lio_audit.proofs.SeenLemmas.{over-ticket, seen-some}

shown-fits : (visible : Bool) (content : Content) → ContentFits content → ContentFits (cond visible content Hidden)
shown-fits true content fits = fits
shown-fits false content fits = tt

content-fits : (observer label : Label) (content : Content) → ContentFits content → ContentFits (erase_content observer label content)
unfolding erase_content
content-fits observer label content fits = shown-fits (flows label observer) content fits

inner-fits : (visible : Bool) (inner : Inner) → InnerFits inner → InnerFits (if visible then inner else forest.Hidden)
inner-fits true inner fits = fits
inner-fits false inner fits = tt

-- lists are as deep as before
mutual
  tree-deep : (observer : Label) (tree : Tree) → tree_depth (erase_tree observer tree) ≡ tree_depth tree
  tree-deep observer (forest.Items items) = ap (λ n. n + 1) (items-deep observer items)
  tree-deep observer forest.Unit = refl
  tree-deep observer (forest.Flag flag) = refl
  tree-deep observer (forest.Whole number) = refl
  tree-deep observer (forest.Bytes text) = refl
  tree-deep observer (forest.Lab label) = refl
  tree-deep observer (forest.Power privilege) = refl
  tree-deep observer (forest.RefOf handle) = refl
  tree-deep observer (forest.VarOf handle) = refl
  tree-deep observer (forest.ResultOf handle) = refl
  tree-deep observer (forest.ChanOf handle) = refl

  item-deep : (observer : Label) (item : Item) → item_depth (erase_item observer item) ≡ item_depth item
  item-deep observer (forest.Bare tree) = tree-deep observer tree
  item-deep observer (forest.Sealed label inner) = refl

  items-deep : (observer : Label) (items : Forest) → deepest (erase_forest observer items) ≡ deepest items
  items-deep observer Nothing = refl
  items-deep observer (Then item items) = λ i. max (item-deep observer item i) (items-deep observer items i)

mutual
  tree-fits : (observer : Label) (tree : Tree) → TreeFits tree → TreeFits (erase_tree observer tree)
  tree-fits observer (forest.Items items) fits = (subst (λ n. n < 8) (sym (items-deep observer items)) fits.0, items-fit observer items fits.1)
  tree-fits observer forest.Unit fits = fits
  tree-fits observer (forest.Flag flag) fits = fits
  tree-fits observer (forest.Whole number) fits = fits
  tree-fits observer (forest.Bytes text) fits = fits
  tree-fits observer (forest.Lab label) fits = fits
  tree-fits observer (forest.Power privilege) fits = fits
  tree-fits observer (forest.RefOf handle) fits = fits
  tree-fits observer (forest.VarOf handle) fits = fits
  tree-fits observer (forest.ResultOf handle) fits = fits
  tree-fits observer (forest.ChanOf handle) fits = fits

  item-fits : (observer : Label) (item : Item) → ItemFits item → ItemFits (erase_item observer item)
  item-fits observer (forest.Bare tree) fits = tree-fits observer tree fits
  item-fits observer (forest.Sealed label inner) fits = (fits.0, inner-fits (flows label observer) inner fits.1)

  items-fit : (observer : Label) (items : Forest) → ItemsFit items → ItemsFit (erase_forest observer items)
  items-fit observer Nothing fits = tt
  items-fit observer (Then item items) fits = (item-fits observer item fits.0, items-fit observer items fits.1)

value-fits : (observer : Label) (value : Value) → ValueFits value → ValueFits (erase_value observer value)
value-fits observer (Bare plain) fits = subst TreeFits (sym (tree_of-plain_of (erase_tree observer (tree_of plain)))) (tree-fits observer (tree_of plain) fits)
value-fits observer (Sealed label content) fits = (fits.0, content-fits observer label content fits.1)

option-fits : (observer : Label) (value : Option Value) → OptionFits value → OptionFits (option_map (erase_value observer) value)
option-fits observer None fits = tt
option-fits observer (Some value) fits = value-fits observer value fits

birth-fits : (observer : Label) (birth : Birth) → BirthFits birth → BirthFits (erase_birth observer birth)
birth-fits observer birth fits =
    let args : All ValueFits (map (erase_value observer) birth.args) = All-map ValueFits (erase_value observer) birth.args (λ k d within. value-fits observer _ (fits.args k d within)) in
    record {
      proc_at = fits.proc_at;
      result = fits.result;
      clearance = fits.clearance;
      turns = fits.turns;
      first = fits.first;
      cells = fits.cells;
      args = args;
    }

act-fits : (observer : Label) (act : Act) → ActFits act → ActFits (erase_act observer act)
act-fits observer (Release source target power content) fits = (fits.0, fits.1, fits.2, content-fits observer target content fits.3)
act-fits observer (Expose source target power content) fits = (fits.0, fits.1, fits.2, content-fits observer target content fits.3)
act-fits observer (NewRef label value) fits = (fits.0, value-fits observer value fits.1)
act-fits observer (NewVar label value) fits = (fits.0, option-fits observer value fits.1)
act-fits observer (Fork birth) fits = birth-fits observer birth fits
act-fits observer (Spawn birth) fits = birth-fits observer birth fits
act-fits observer (Write value) fits = value-fits observer value fits
act-fits observer (Put value) fits = value-fits observer value fits
act-fits observer Step fits = fits
act-fits observer (Seal label) fits = fits
act-fits observer (Raise op label) fits = fits
act-fits observer (Lower label) fits = fits
act-fits observer Read fits = fits
act-fits observer Take fits = fits
act-fits observer Wait fits = fits
act-fits observer (Send text) fits = fits
act-fits observer (Ended content) fits = fits

reply-fits : (observer : Label) (reply : Reply) → ReplyFits reply → ReplyFits (erase_reply observer reply)
reply-fits observer Done fits = fits
reply-fits observer (Got value) fits = value-fits observer value fits
reply-fits observer (Told content) fits = fits
reply-fits observer (Refused fault) fits = fits

entry-over : (names : List (List ℕ)) (observer : Label) (entry : Entry) → IsEntryOver names entry → IsEntryOver names (erase_entry observer entry)
entry-over names observer entry over = record {
  printable = erased_is_printable names observer entry over.printable;
  fits = record {
    ticket = over.fits.ticket;
    actor = over.fits.actor;
    target = over.fits.target;
    at = over.fits.at;
    act = act-fits observer entry.act over.fits.act;
    reply = reply-fits observer entry.reply over.fits.reply;
  };
}

view-over-one : (names : List (List ℕ)) (observer : Label) (ticket : ℕ) (entry : Entry) (entries : List Entry) → IsEntryOver names entry → ticket + length (view observer ticket (entry ∷ entries)) ≤ 2 ^ 64
    → ((next : ℕ) → next + length (view observer next entries) ≤ 2 ^ 64 → All (IsEntryOver names) (view observer next entries)) → (seen : Bool) → flows entry.at observer ≡ seen → All (IsEntryOver names) (view observer ticket (entry ∷ entries))
view-over-one names observer ticket entry entries over most rest true seen =
    let is : view observer ticket (entry ∷ entries) ≡ erase_entry observer (record entry { ticket = ticket }) ∷ view observer (ticket + 1) entries = view-seen observer ticket entry entries seen in
    let long : length (view observer ticket (entry ∷ entries)) ≡ suc (length (view observer (ticket + 1) entries)) = ap (λ (es : List Entry). length es) is in
    let wide : ticket < 2 ^ 64 = omega arith in
    let later : ticket + 1 + length (view observer (ticket + 1) entries) ≤ 2 ^ 64 = omega arith in
    subst (All (IsEntryOver names)) (sym is)
    (All-cons (IsEntryOver names) (erase_entry observer (record entry { ticket = ticket })) (view observer (ticket + 1) entries)
    (entry-over names observer (record entry { ticket = ticket }) (over-ticket names entry ticket wide over)) (rest (ticket + 1) later))
view-over-one names observer ticket entry entries over most rest false unseen =
    let is : view observer ticket (entry ∷ entries) ≡ view observer ticket entries = view-unseen observer ticket entry entries unseen in
    subst (All (IsEntryOver names)) (sym is) (rest ticket (subst (λ (es : List Entry). ticket + length es ≤ 2 ^ 64) is most))

pub view-over : (names : List (List ℕ)) (observer : Label) (ticket : ℕ) (entries : List Entry) → All (IsEntryOver names) entries → ticket + length (view observer ticket entries) ≤ 2 ^ 64 → All (IsEntryOver names) (view observer ticket entries)
view-over names observer ticket [] all most = subst (All (IsEntryOver names)) (sym (view-none observer ticket)) (All-nil (IsEntryOver names))
view-over names observer ticket (entry ∷ entries) all most =
    view-over-one names observer ticket entry entries (All-head (IsEntryOver names) entry entries all) most
    (λ next later. view-over names observer next entries (All-tail (IsEntryOver names) entry entries all) later) (flows entry.at observer) refl

-- a text has at least as many bytes as lines
pub lines-fewer : (names : List (List ℕ)) (entries : List Entry) → length entries ≤ length (journal_text names false entries)
lines-fewer names [] = omega arith
lines-fewer names (entry ∷ entries) =
    let rest : length entries ≤ length (journal_text names false entries) = lines-fewer names entries in
    let some : 0 < length (entry_text names false entry) = seen-some names entry in
    let both : length (journal_text names false (entry ∷ entries)) ≡ length (entry_text names false entry) + length (journal_text names false entries) =
    length-append (entry_text names false entry) (journal_text names false entries) in
    omega arith
