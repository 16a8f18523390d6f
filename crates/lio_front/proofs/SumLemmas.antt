-- Counts, and the lines of a summary.
use Rattle.std.proofs.Common.{◌≡◌, ◌∙◌, sym, ap, refl, subst, ℕ, ◌+◌, ◌<◌, ◌≤◌, arith, Bool, true, false, cond, List, [], ◌∷◌, ◌++◌, map, length, get_or, take, append_assoc, codes}
use Rattle.std.specs.List.{count_by}
use Rattle.std.proofs.lemmas.List.{length-take-le}
use Rattle.std.proofs.lemmas.List.Recursion.{is_count_by}
use Rattle.std.proofs.lemmas.List.Sums.{count_by_more_yes, count_by_more_no}
use Rattle.lio_values.specs.declared.entry.Entry.{Entry}
use Rattle.lio_events.specs.ChannelBytes.{channel_bytes}
use Rattle.lio_calculus.specs.Step.{Configuration}
use Rattle.lio_policy.specs.declared.policy.FileEntry.{FileEntry}
use Rattle.lio_policy.specs.Policy.{PolicyParts}
use Rattle.lio_front.specs.Summary.{channel_line, channel_lines, has_ended, has_task, line_of, summary_text}
use Rattle.lio_front.proofs.InputLemmas.{take-next}

-- one more is counted where it passes
pub count-next : {X : Type 0} → (p : X → Bool) (ys xs : List X) (i : ℕ) (d : X) (b : Bool) → ys ≡ xs → i < length ys → d ≡ get_or ys i d → b ≡ p d → count_by p (take (i + 1) xs) ≡ count_by p (take i xs) + cond b 1 0
count-next p ys xs i d b same below at is =
    subst (λ zs. count_by p (take (i + 1) zs) ≡ count_by p (take i zs) + cond b 1 0) same (by b (is ∙ ap p at))
  where
    by : (b' : Bool) → b' ≡ p (get_or ys i d) → count_by p (take (i + 1) ys) ≡ count_by p (take i ys) + cond b' 1 0
    by true passes = count_by_more_yes p ys i d below (sym passes)
    by false passes = count_by_more_no p ys i d below (sym passes) ∙ omega arith

pub one-more : (n m i : ℕ) (b : Bool) → n ≡ m + cond b 1 0 → m ≤ i → n ≤ i + 1
one-more n m i true is below = omega (arith, is, below)
one-more n m i false is below = omega (arith, is, below)

-- the same count by recursion
tally : {X : Type 0} → (X → Bool) → List X → ℕ
tally p [] = 0
tally p (x ∷ xs) = cond (p x) (1 + tally p xs) (tally p xs)

tally-is : {X : Type 0} → (p : X → Bool) (xs : List X) → tally p xs ≡ count_by p xs
unfolding tally
tally-is p xs = is_count_by (tally p) p refl (λ x ys. refl) xs

tally-map : {X Y : Type 0} → (p : Y → Bool) (f : X → Y) (xs : List X) → tally p (map f xs) ≡ tally (λ x. p (f x)) xs
unfolding tally
tally-map p f [] = refl
tally-map p f (x ∷ xs) = ap (λ (n : ℕ). cond (p (f x)) (1 + n) n) (tally-map p f xs)

pub count-map : {X Y : Type 0} → (p : Y → Bool) (f : X → Y) (xs : List X) → count_by p (map f xs) ≡ count_by (λ x. p (f x)) xs
count-map p f xs = sym (tally-is p (map f xs)) ∙ tally-map p f xs ∙ tally-is (λ x. p (f x)) xs

lines-append : (journal : List Entry) (n : ℕ) (xs ys : List FileEntry) → channel_lines journal n (xs ++ ys) ≡ channel_lines journal n xs ++ channel_lines journal (n + length xs) ys
lines-append journal n [] ys = ap (λ (m : ℕ). channel_lines journal m ys) (omega arith)
lines-append journal n (x ∷ xs) ys =
    ap (λ (rest : List ℕ). channel_line journal n x ++ rest) (lines-append journal (n + 1) xs ys ∙ ap (λ (m : ℕ). channel_lines journal (n + 1) xs ++ channel_lines journal m ys) (omega arith))
    ∙ sym (append_assoc (channel_line journal n x) (channel_lines journal (n + 1) xs) (channel_lines journal (n + length (x ∷ xs)) ys))

nothing-behind : (xs : List ℕ) → xs ++ [] ≡ xs
nothing-behind [] = refl
nothing-behind (x ∷ xs) = ap (λ rest. x ∷ rest) (nothing-behind xs)

lines-next : (journal : List Entry) (channels : List FileEntry) (i : ℕ) (channel : FileEntry) → i < length channels → channel ≡ get_or channels i channel
    → channel_lines journal 0 (take (i + 1) channels) ≡ channel_lines journal 0 (take i channels) ++ channel_line journal i channel
lines-next journal channels i channel below is =
    let place : 0 + length (take i channels) ≡ i = omega (arith, length-take-le i channels (omega (arith, below))) in
    ap (channel_lines journal 0) (take-next channels i channel below is) ∙ lines-append journal 0 (take i channels) (channel ∷ [])
    ∙ ap (λ (m : ℕ). channel_lines journal 0 (take i channels) ++ channel_lines journal m (channel ∷ [])) place
    ∙ ap (λ (rest : List ℕ). channel_lines journal 0 (take i channels) ++ rest) (nothing-behind (channel_line journal i channel))

-- one channel's line more
pub lines-push : (start out middle now name : List ℕ) (count : ℕ) (journal : List Entry) (channels : List FileEntry) (i : ℕ) (channel : FileEntry) → i < length channels → channel ≡ get_or channels i channel
    → out ≡ start ++ channel_lines journal 0 (take i channels) → middle ≡ out ++ codes "channel " → now ≡ middle ++ line_of name count → name ≡ channel.name → count ≡ length (channel_bytes journal i)
    → now ≡ start ++ channel_lines journal 0 (take (i + 1) channels)
lines-push start out middle now name count journal channels i channel below is a b c named counted =
    let word = codes "channel " in
    let line = line_of channel.name (length (channel_bytes journal i)) in
    let lines = channel_lines journal 0 (take i channels) in
    c ∙ ap (λ (n : List ℕ). middle ++ line_of n count) named ∙ ap (λ (n : ℕ). middle ++ line_of channel.name n) counted ∙ ap (λ (m : List ℕ). m ++ line) b ∙ ap (λ (o : List ℕ). (o ++ word) ++ line) a
    ∙ append_assoc (start ++ lines) word line ∙ append_assoc start lines (word ++ line) ∙ ap (λ (rest : List ℕ). start ++ rest) (sym (lines-next journal channels i channel below is))

-- a summary, line by line
pub summary-is : (policy : PolicyParts) (last : Configuration) (journal : List Entry) (start first second third out : List ℕ) (tasks ended turns : ℕ) → start ≡ [] → first ≡ start ++ line_of (codes "tasks") tasks
    → second ≡ first ++ line_of (codes "ended") ended → third ≡ second ++ line_of (codes "turns") turns → out ≡ third ++ channel_lines journal 0 policy.channels
    → tasks ≡ count_by has_task last.cells → ended ≡ count_by has_ended last.cells → turns ≡ length journal → out ≡ summary_text policy last journal
unfolding summary_text
summary-is policy last journal start first second third out tasks ended turns nothing a b c d tasked done_ taken =
    let one : first ≡ line_of (codes "tasks") (count_by has_task last.cells) = a ∙ ap (λ (s : List ℕ). s ++ line_of (codes "tasks") tasks) nothing ∙ ap (line_of (codes "tasks")) tasked in
    let two : second ≡ line_of (codes "tasks") (count_by has_task last.cells) ++ line_of (codes "ended") (count_by has_ended last.cells) =
    b ∙ ap (λ (f : List ℕ). f ++ line_of (codes "ended") ended) one ∙ ap (λ (n : ℕ). line_of (codes "tasks") (count_by has_task last.cells) ++ line_of (codes "ended") n) done_ in
    let three : third ≡ line_of (codes "tasks") (count_by has_task last.cells) ++ line_of (codes "ended") (count_by has_ended last.cells) ++ line_of (codes "turns") (length journal) =
    c ∙ ap (λ (s : List ℕ). s ++ line_of (codes "turns") turns) two ∙ ap (λ (n : ℕ). line_of (codes "tasks") (count_by has_task last.cells) ++ line_of (codes "ended") (count_by has_ended last.cells) ++ line_of (codes "turns") n) taken in
    d ∙ ap (λ (t : List ℕ). t ++ channel_lines journal 0 policy.channels) three
