-- When sorted words give no command.
use Rattle.std.proofs.Common.{◌≡◌, ◌∙◌, ap, refl, arith, ℕ, List, [], ◌∷◌, ◌++◌, Bool, true, false, not, ◌||◌, ◌&&◌, if◌then◌else◌, All, IsTrue, Option, None, Some}
use Rattle.std.specs.Option.{option_map}
use Rattle.lio_front.specs.declared.words.said.Name.{Name}
use Rattle.lio_front.specs.declared.words.said.Name.TheVariants.{History, View, Observer, Make, Workers, Check}
use Rattle.lio_front.specs.declared.words.sorted.Plain as declared_plain
use Rattle.lio_front.specs.declared.words.sorted.Plain.TheVariants as plain
use Rattle.lio_front.specs.Command.{Command, Mode, Source, Watch, are_refused, command_by, commanded, first_of, is_name, is_wrong, source_of, watch_of, mode_of}
use Rattle.lio_front.specs.declared.words.sorted.Sorted as declared_sorted
use Rattle.lio_front.specs.Sorted.{AreNames, before, plain_of, sorted_of, word_list}
use Rattle.lio_front.specs.Walk.{Walked, with_plain, with_value}

chosen : (b : Bool) (x y : Option Command) → b ≡ true → (if b then x else y) ≡ x
chosen b x y is = rw is refl

either_none : (b : Bool) (x : Option Command) → x ≡ None → (if b then None else x) ≡ None
either_none true x is = refl
either_none false x is = is

-- words that are wrong give no command
none-wrong : (w : Walked) → is_wrong w ≡ true → command_by w ≡ None
unfolding command_by
none-wrong w wrong = chosen (is_wrong w) None (commanded (source_of w.sizes w.plain) (first_of w.histories) (watch_of w.views w.observers) (mode_of w.counts w.checks)) wrong

-- nor do words that name nothing to run
none-unsourced : (w : Walked) → source_of w.sizes w.plain ≡ None → command_by w ≡ None
unfolding command_by
none-unsourced w none =
    either_none (is_wrong w) (commanded (source_of w.sizes w.plain) (first_of w.histories) (watch_of w.views w.observers) (mode_of w.counts w.checks))
    (ap (λ (s : Option Source). commanded s (first_of w.histories) (watch_of w.views w.observers) (mode_of w.counts w.checks)) none)

-- one of two is so
left-is : (a b : Bool) → a ≡ true → (a || b) ≡ true
left-is a b is = rw is refl

right-is : (a b : Bool) → b ≡ true → (a || b) ≡ true
right-is true b is = refl
right-is false b is = is

-- the values of an option
abbrev pub values : Name → Walked → List (List ℕ)
values History w = w.histories
values View w = w.views
values Observer w = w.observers
values Make w = w.sizes
values Workers w = w.counts
values Check w = w.checks

-- an option with a value that may not come
pub none-value : (name : Name) (w : Walked) (word : List ℕ) (rest : Walked) → are_refused (values name w ++ word ∷ values name rest) ≡ true → command_by (before w (with_value name word rest)) ≡ None
none-value History w word rest is =
    none-wrong (before w (with_value History word rest))
    (left-is (rest.lacks || are_refused (w.histories ++ word ∷ rest.histories) || are_refused (w.views ++ rest.views) || are_refused (w.observers ++ rest.observers) || are_refused (w.sizes ++ rest.sizes) || are_refused (w.counts ++ rest.counts)) (are_refused (w.checks ++ rest.checks))
    (left-is (rest.lacks || are_refused (w.histories ++ word ∷ rest.histories) || are_refused (w.views ++ rest.views) || are_refused (w.observers ++ rest.observers) || are_refused (w.sizes ++ rest.sizes)) (are_refused (w.counts ++ rest.counts))
    (left-is (rest.lacks || are_refused (w.histories ++ word ∷ rest.histories) || are_refused (w.views ++ rest.views) || are_refused (w.observers ++ rest.observers)) (are_refused (w.sizes ++ rest.sizes))
    (left-is (rest.lacks || are_refused (w.histories ++ word ∷ rest.histories) || are_refused (w.views ++ rest.views)) (are_refused (w.observers ++ rest.observers))
    (left-is (rest.lacks || are_refused (w.histories ++ word ∷ rest.histories)) (are_refused (w.views ++ rest.views))
    (right-is (rest.lacks) (are_refused (w.histories ++ word ∷ rest.histories)) is))))))
none-value View w word rest is =
    none-wrong (before w (with_value View word rest))
    (left-is (rest.lacks || are_refused (w.histories ++ rest.histories) || are_refused (w.views ++ word ∷ rest.views) || are_refused (w.observers ++ rest.observers) || are_refused (w.sizes ++ rest.sizes) || are_refused (w.counts ++ rest.counts)) (are_refused (w.checks ++ rest.checks))
    (left-is (rest.lacks || are_refused (w.histories ++ rest.histories) || are_refused (w.views ++ word ∷ rest.views) || are_refused (w.observers ++ rest.observers) || are_refused (w.sizes ++ rest.sizes)) (are_refused (w.counts ++ rest.counts))
    (left-is (rest.lacks || are_refused (w.histories ++ rest.histories) || are_refused (w.views ++ word ∷ rest.views) || are_refused (w.observers ++ rest.observers)) (are_refused (w.sizes ++ rest.sizes))
    (left-is (rest.lacks || are_refused (w.histories ++ rest.histories) || are_refused (w.views ++ word ∷ rest.views)) (are_refused (w.observers ++ rest.observers))
    (right-is (rest.lacks || are_refused (w.histories ++ rest.histories)) (are_refused (w.views ++ word ∷ rest.views)) is)))))
none-value Observer w word rest is =
    none-wrong (before w (with_value Observer word rest))
    (left-is (rest.lacks || are_refused (w.histories ++ rest.histories) || are_refused (w.views ++ rest.views) || are_refused (w.observers ++ word ∷ rest.observers) || are_refused (w.sizes ++ rest.sizes) || are_refused (w.counts ++ rest.counts)) (are_refused (w.checks ++ rest.checks))
    (left-is (rest.lacks || are_refused (w.histories ++ rest.histories) || are_refused (w.views ++ rest.views) || are_refused (w.observers ++ word ∷ rest.observers) || are_refused (w.sizes ++ rest.sizes)) (are_refused (w.counts ++ rest.counts))
    (left-is (rest.lacks || are_refused (w.histories ++ rest.histories) || are_refused (w.views ++ rest.views) || are_refused (w.observers ++ word ∷ rest.observers)) (are_refused (w.sizes ++ rest.sizes))
    (right-is (rest.lacks || are_refused (w.histories ++ rest.histories) || are_refused (w.views ++ rest.views)) (are_refused (w.observers ++ word ∷ rest.observers)) is))))
none-value Make w word rest is =
    none-wrong (before w (with_value Make word rest))
    (left-is (rest.lacks || are_refused (w.histories ++ rest.histories) || are_refused (w.views ++ rest.views) || are_refused (w.observers ++ rest.observers) || are_refused (w.sizes ++ word ∷ rest.sizes) || are_refused (w.counts ++ rest.counts)) (are_refused (w.checks ++ rest.checks))
    (left-is (rest.lacks || are_refused (w.histories ++ rest.histories) || are_refused (w.views ++ rest.views) || are_refused (w.observers ++ rest.observers) || are_refused (w.sizes ++ word ∷ rest.sizes)) (are_refused (w.counts ++ rest.counts))
    (right-is (rest.lacks || are_refused (w.histories ++ rest.histories) || are_refused (w.views ++ rest.views) || are_refused (w.observers ++ rest.observers)) (are_refused (w.sizes ++ word ∷ rest.sizes)) is)))
none-value Workers w word rest is =
    none-wrong (before w (with_value Workers word rest))
    (left-is (rest.lacks || are_refused (w.histories ++ rest.histories) || are_refused (w.views ++ rest.views) || are_refused (w.observers ++ rest.observers) || are_refused (w.sizes ++ rest.sizes) || are_refused (w.counts ++ word ∷ rest.counts)) (are_refused (w.checks ++ rest.checks))
    (right-is (rest.lacks || are_refused (w.histories ++ rest.histories) || are_refused (w.views ++ rest.views) || are_refused (w.observers ++ rest.observers) || are_refused (w.sizes ++ rest.sizes)) (are_refused (w.counts ++ word ∷ rest.counts)) is))
none-value Check w word rest is =
    none-wrong (before w (with_value Check word rest))
    (right-is (rest.lacks || are_refused (w.histories ++ rest.histories) || are_refused (w.views ++ rest.views) || are_refused (w.observers ++ rest.observers) || are_refused (w.sizes ++ rest.sizes) || are_refused (w.counts ++ rest.counts)) (are_refused (w.checks ++ word ∷ rest.checks)) is)

-- an option that lacks its value
pub none-lacking : (w : Walked) → w.lacks ≡ true → command_by w ≡ None
none-lacking w is =
    none-wrong w
    (left-is (w.lacks || are_refused w.histories || are_refused w.views || are_refused w.observers || are_refused w.sizes || are_refused w.counts) (are_refused w.checks)
    (left-is (w.lacks || are_refused w.histories || are_refused w.views || are_refused w.observers || are_refused w.sizes) (are_refused w.counts)
    (left-is (w.lacks || are_refused w.histories || are_refused w.views || are_refused w.observers) (are_refused w.sizes)
    (left-is (w.lacks || are_refused w.histories || are_refused w.views) (are_refused w.observers)
    (left-is (w.lacks || are_refused w.histories) (are_refused w.views)
    (left-is (w.lacks) (are_refused w.histories)
    is))))))

not_both : (a b : Bool) (x : Option Source) → b ≡ false → (if a && b then x else None) ≡ None
not_both true b x is = rw is refl
not_both false b x is = refl

-- a word that may be no name, as a plain word
unnamed-source : (so_far : declared_plain.Plain) (sizes : List (List ℕ)) (word : List ℕ) (rest : List (List ℕ)) → is_name word ≡ false → source_of sizes (plain_of so_far ++ word ∷ rest) ≡ None
unnamed-source plain.Nothing [] word [] is = refl
unnamed-source plain.Nothing [] word (next ∷ []) is = rw is refl
unnamed-source plain.Nothing [] word (next ∷ other ∷ rest) is = refl
unnamed-source plain.Nothing (size ∷ sizes) word rest is = refl
unnamed-source (plain.One first) [] word [] is = not_both (is_name first.now) (is_name word) _ is
unnamed-source (plain.One first) [] word (next ∷ rest) is = refl
unnamed-source (plain.One first) (size ∷ sizes) word rest is = refl
unnamed-source (plain.Two first second) [] word rest is = refl
unnamed-source (plain.Two first second) (size ∷ sizes) word rest is = refl

pub none-unnamed : (so_far : declared_plain.Plain) (w : Walked) (word : List ℕ) (rest : Walked) → w.plain ≡ plain_of so_far → is_name word ≡ false → command_by (before w (with_plain word rest)) ≡ None
none-unnamed so_far w word rest plain_is is =
    none-unsourced (before w (with_plain word rest))
    (ap (λ (words : List (List ℕ)). source_of (w.sizes ++ rest.sizes) (words ++ word ∷ rest.plain)) plain_is ∙ unnamed-source so_far (w.sizes ++ rest.sizes) word rest.plain is)

third-source : (sizes : List (List ℕ)) (a b word : List ℕ) (rest : List (List ℕ)) → source_of sizes (a ∷ b ∷ word ∷ rest) ≡ None
third-source [] a b word rest = refl
third-source (size ∷ sizes) a b word rest = refl

-- a third plain word
pub none-third : (w : Walked) (a b word : List ℕ) (rest : Walked) → w.plain ≡ a ∷ b ∷ [] → command_by (before w (with_plain word rest)) ≡ None
none-third w a b word rest plain_is =
    none-unsourced (before w (with_plain word rest))
    (ap (λ (words : List (List ℕ)). source_of (w.sizes ++ rest.sizes) (words ++ word ∷ rest.plain)) plain_is ∙ third-source (w.sizes ++ rest.sizes) a b word rest.plain)

-- a single value that may be one, or none
unrefused : (so_far : Option (List ℕ)) → All (λ word. IsTrue (is_name word)) (word_list so_far) → are_refused (word_list so_far) ≡ false
unrefused None names = refl
unrefused (Some word) names = named_word (is_name word) (names 0 [] (omega arith))
  where
    named_word : (b : Bool) → IsTrue b → not b ≡ false
    named_word true is = refl
    named_word false is = absurd (cc)

all-right : (h v o s n c : Bool) → h ≡ false → v ≡ false → o ≡ false → s ≡ false → n ≡ false → c ≡ false → (false || h || v || o || s || n || c) ≡ false
all-right h v o s n c hs vs os ss ns cs = rw (hs, vs, os, ss, ns, cs) refl

passed : (b : Bool) (x y : Option Command) → b ≡ false → (if b then x else y) ≡ y
passed b x y is = rw is refl

first-word : (so_far : Option (List ℕ)) → first_of (word_list so_far) ≡ so_far
first-word None = refl
first-word (Some word) = refl

-- the command of sorted words that are none wrong
pub command-right : (so_far : declared_sorted.Sorted) → AreNames (sorted_of so_far)
    → command_by (sorted_of so_far) ≡ commanded (source_of (sorted_of so_far).sizes (sorted_of so_far).plain) (option_map (λ word. word.now) so_far.history) (watch_of (sorted_of so_far).views (sorted_of so_far).observers) (mode_of (sorted_of so_far).counts (sorted_of so_far).checks)
unfolding command_by
command-right so_far names =
    let w = sorted_of so_far in
    passed (is_wrong w) None (commanded (source_of w.sizes w.plain) (first_of w.histories) (watch_of w.views w.observers) (mode_of w.counts w.checks))
    (all-right (are_refused w.histories) (are_refused w.views) (are_refused w.observers) (are_refused w.sizes) (are_refused w.counts) (are_refused w.checks)
    (unrefused _ names.histories) (unrefused _ names.views) (unrefused _ names.observers) (unrefused _ names.sizes) (unrefused _ names.counts) (unrefused _ names.checks))
    ∙ ap (λ (h : Option (List ℕ)). commanded (source_of w.sizes w.plain) h (watch_of w.views w.observers) (mode_of w.counts w.checks)) (first-word (option_map (λ word. word.now) so_far.history))

pub unsourced : (source : Option Source) (history : Option (List ℕ)) (watch : Option (Option Watch)) (mode : Option Mode) → source ≡ None → commanded source history watch mode ≡ None
unsourced source history watch mode is = rw is refl

pub unwatched : (source : Option Source) (history : Option (List ℕ)) (watch : Option (Option Watch)) (mode : Option Mode) → watch ≡ None → commanded source history watch mode ≡ None
unwatched None history watch mode is = refl
unwatched (Some source) history watch mode is = rw is refl

pub modeless : (source : Option Source) (history : Option (List ℕ)) (watch : Option (Option Watch)) (mode : Option Mode) → mode ≡ None → commanded source history watch mode ≡ None
modeless None history watch mode is = refl
modeless (Some source) history None mode is = refl
modeless (Some source) history (Some watch) mode is = rw is refl

-- words that name something to run, a view or none, and a way to take the turns
pub commanded-by : (source : Option Source) (history : Option (List ℕ)) (watch : Option (Option Watch)) (mode : Option Mode) (run : Source) (seen : Option Watch) (way : Mode)
    → source ≡ Some run → watch ≡ Some seen → mode ≡ Some way
    → commanded source history watch mode ≡ Some (record { source = run; history = history; watch = seen; mode = way })
commanded-by source history watch mode run seen way runs sees goes = rw (runs, sees, goes) refl
