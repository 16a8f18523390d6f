-- What the channels have received, entry by entry.
use Rattle.std.proofs.Common.{◌≡◌, ◌≢◌, ◌∙◌, sym, ap, refl, subst, ℕ, zero, suc, ◌+◌, ◌<◌, ◌≤◌, arith, List, [], ◌∷◌, ◌++◌, map, length, get_or, Option, None, Some, Vec, replicate, inl, inr, length-append}
use Rattle.std.proofs.Math.ListN.{set, length-set, length-map, get_or-map}
use Rattle.std.proofs.lemmas.Bool.{cases_eq, eq-eqb, ne_eqb}
use Rattle.std.proofs.lemmas.List.{append-nil, ext_get_or, flat_map_more, get_or-set_other, get_or-set_same, get_or-replicate, length-replicate, map-append, map-set}
use Rattle.std.proofs.lemmas.List.FromFn.{get_or-map-range_with_len, length-map-range_with_len, map-range_with_len_more}
use Rattle.std.specs.List.{range_with_len}
use Rattle.std.specs.declared.alloc.Global.{Global}
use Rattle.lio_values.specs.declared.entry.Entry.{Entry}
use Rattle.lio_events.specs.ChannelBytes.{channel_bytes, sent, sent_to}
use Rattle.lio_front.specs.Sends.{bytes_of_lists, received}

-- what an entry sends to a channel
part : Entry → ℕ → List ℕ
part entry channel = sent_to channel entry.target entry.act entry.reply

-- of one entry more
bytes-push : (journal : List Entry) (entry : Entry) (k : ℕ) → channel_bytes (journal ++ entry ∷ []) k ≡ channel_bytes journal k ++ part entry k
unfolding part
bytes-push journal entry k = sym (flat_map_more (λ (e : Entry). sent_to k e.target e.act e.reply) [] journal entry)

-- what a channel has received stands at its place
pub received-at : (journal : List Entry) (count k : ℕ) → k < count → get_or (received journal count) k [] ≡ channel_bytes journal k
unfolding received
received-at journal count k inside = get_or-map-range_with_len (channel_bytes journal) 0 count k k [] inside (omega arith)

pub received-length : (journal : List Entry) (count : ℕ) → length (received journal count) ≡ count
unfolding received
received-length journal count = length-map-range_with_len (channel_bytes journal) 0 count

-- lists that have the entry's part more, each at its place
received-step : (journal : List Entry) (entry : Entry) (count : ℕ) (lists : List (List ℕ)) → length lists ≡ count → ((k : ℕ) → k < count → get_or lists k [] ≡ channel_bytes journal k ++ part entry k)
    → lists ≡ received (journal ++ entry ∷ []) count
received-step journal entry count lists long each =
    let all = received (journal ++ entry ∷ []) count in
    ext_get_or [] lists all (long ∙ sym (received-length (journal ++ entry ∷ []) count))
    (λ k inside.
    let below : k < count = subst (λ (n : ℕ). k < n) long inside in
    each k below ∙ sym (received-at (journal ++ entry ∷ []) count k below ∙ bytes-push journal entry k))

-- an entry that sends nothing to these channels
received-still : (journal : List Entry) (entry : Entry) (count : ℕ) → ((k : ℕ) → k < count → part entry k ≡ []) → received journal count ≡ received (journal ++ entry ∷ []) count
received-still journal entry count silent =
    received-step journal entry count (received journal count) (received-length journal count)
    (λ k below. received-at journal count k below ∙ sym (ap (λ (p : List ℕ). channel_bytes journal k ++ p) (silent k below) ∙ append-nil (channel_bytes journal k)))

-- no target
part-none : (entry : Entry) (k : ℕ) → entry.target ≡ None → part entry k ≡ []
unfolding part
part-none entry k is = ap (λ (target : Option ℕ). sent_to k target entry.act entry.reply) is

-- another target
part-other : (entry : Entry) (k target : ℕ) → entry.target ≡ Some target → target ≢ k → part entry k ≡ []
unfolding part
part-other entry k target is apart =
    ap (λ (t : Option ℕ). sent_to k t entry.act entry.reply) is ∙ rw (ne_eqb target k apart) refl

-- this target
part-same : (entry : Entry) (target : ℕ) → entry.target ≡ Some target → part entry target ≡ sent entry.act entry.reply
unfolding part
part-same entry target is =
    ap (λ (t : Option ℕ). sent_to target t entry.act entry.reply) is ∙ rw (eq-eqb target target refl) refl

-- an entry with no target
pub received-none : (journal : List Entry) (entry : Entry) (count : ℕ) → entry.target ≡ None → received journal count ≡ received (journal ++ entry ∷ []) count
received-none journal entry count is = received-still journal entry count (λ k below. part-none entry k is)

-- an entry whose target is none of these channels
pub received-past : (journal : List Entry) (entry : Entry) (count target : ℕ) → entry.target ≡ Some target → count ≤ target → received journal count ≡ received (journal ++ entry ∷ []) count
received-past journal entry count target is past = received-still journal entry count (λ k below. part-other entry k target is (omega (arith, past, below)))

-- an entry that sends to one of them
pub received-grown : (journal : List Entry) (entry : Entry) (count target : ℕ) (text : List ℕ) → entry.target ≡ Some target → target < count → text ≡ sent entry.act entry.reply
    → set (received journal count) target (get_or (received journal count) target [] ++ text) ≡ received (journal ++ entry ∷ []) count
received-grown journal entry count target text is inside said =
    let lists = received journal count in
    let grown = get_or lists target [] ++ text in
    received-step journal entry count (set lists target grown) (length-set lists target grown ∙ received-length journal count)
    (λ k below. elim (cases_eq k target) [
      | inl same ↦ subst (λ (n : ℕ). get_or (set lists target grown) n [] ≡ channel_bytes journal n ++ part entry n) (sym same)
          (get_or-set_same lists target grown [] (omega (arith, received-length journal count))
          ∙ ap (λ (b : List ℕ). b ++ text) (received-at journal count target inside)
          ∙ ap (λ (p : List ℕ). channel_bytes journal target ++ p) (said ∙ sym (part-same entry target is)))
      | inr apart ↦ get_or-set_other lists target k grown [] apart ∙ received-at journal count k below
          ∙ sym (ap (λ (p : List ℕ). channel_bytes journal k ++ p) (part-other entry k target is (λ e. apart (sym e))) ∙ append-nil (channel_bytes journal k))
    ])

-- an entry whose text is empty
pub received-silent : (journal : List Entry) (entry : Entry) (count target : ℕ) → entry.target ≡ Some target → sent entry.act entry.reply ≡ [] → received journal count ≡ received (journal ++ entry ∷ []) count
received-silent journal entry count target is silent =
    received-still journal entry count (λ k below. elim (cases_eq k target) [
      | inl same ↦ ap (part entry) same ∙ part-same entry target is ∙ silent
      | inr apart ↦ part-other entry k target is (λ e. apart (sym e))
    ])

-- the bytes of the list at a place
bytes-at : (lists : List (Vec ℕ Global)) (place : ℕ) (list : Vec ℕ Global) → place < length lists → list ≡ get_or lists place list → get_or (bytes_of_lists lists) place [] ≡ list.items
bytes-at lists place list inside is = by lists place inside is
  where
    by : (lists : List (Vec ℕ Global)) (place : ℕ) → place < length lists → list ≡ get_or lists place list → get_or (bytes_of_lists lists) place [] ≡ list.items
    by [] place inside is = absurd (omega arith)
    by (l ∷ lists) zero inside is = ap (λ (v : Vec ℕ Global). v.items) (sym is)
    by (l ∷ lists) (suc place) inside is = by lists place (omega arith) is

-- the list of a channel has the text of an entry more
pub lists-grown : (lists : List (Vec ℕ Global)) (journal : List Entry) (entry : Entry) (count target : ℕ) (text : List ℕ) (old new : Vec ℕ Global) → bytes_of_lists lists ≡ received journal count
    → entry.target ≡ Some target → target < length lists → text ≡ sent entry.act entry.reply → old ≡ get_or lists target old → new.items ≡ old.items ++ text
    → bytes_of_lists (set lists target new) ≡ received (journal ++ entry ∷ []) count
lists-grown lists journal entry count target text old new so_far is inside said at more =
    let items : Vec ℕ Global → List ℕ = λ v. v.items in
    let before : get_or (received journal count) target [] ≡ old.items = sym (ap (λ (bs : List (List ℕ)). get_or bs target []) so_far) ∙ bytes-at lists target old inside at in
    map-set items lists target new
    ∙ ap (λ (bs : List (List ℕ)). set bs target new.items) so_far
    ∙ ap (set (received journal count) target) (more ∙ ap (λ (b : List ℕ). b ++ text) (sym before))
    ∙ received-grown journal entry count target text is (omega (arith, inside, sym (length-map lists items) ∙ ap length so_far ∙ received-length journal count)) said

-- those lists are as many as the channels
pub lists-length : (lists : List (Vec ℕ Global)) (journal : List Entry) (count : ℕ) → bytes_of_lists lists ≡ received journal count → length lists ≡ count
lists-length lists journal count so_far = sym (length-map lists (λ (v : Vec ℕ Global). v.items)) ∙ ap length so_far ∙ received-length journal count

-- the bytes of a channel stand at its place
pub lists-at : (lists : List (Vec ℕ Global)) (journal : List Entry) (count place : ℕ) (list : Vec ℕ Global) → bytes_of_lists lists ≡ received journal count → place < count → list ≡ get_or lists place list → list.items ≡ channel_bytes journal place
lists-at lists journal count place list so_far inside at =
    sym (bytes-at lists place list (omega (arith, inside, lists-length lists journal count so_far)) at) ∙ ap (λ (bs : List (List ℕ)). get_or bs place []) so_far ∙ received-at journal count place inside

-- the lists of so many channels, none of which has received anything, and one more
pub lists-more : (lists : List (Vec ℕ Global)) (count : ℕ) (new : Vec ℕ Global) → bytes_of_lists lists ≡ received [] count → new.items ≡ [] → bytes_of_lists (lists ++ new ∷ []) ≡ received [] (count + 1)
unfolding received
lists-more lists count new so_far none =
    map-append (λ (v : Vec ℕ Global). v.items) lists (new ∷ [])
    ∙ ap (λ (bs : List (List ℕ)). bs ++ new.items ∷ []) so_far ∙ ap (λ (b : List ℕ). map (channel_bytes []) (range_with_len 0 count) ++ b ∷ []) none
    ∙ sym (map-range_with_len_more (channel_bytes []) 0 count count (omega arith))

pub lengths-length : (lengths : List ℕ) (journal : List Entry) (count : ℕ) → lengths ≡ map length (received journal count) → length lengths ≡ count
lengths-length lengths journal count so_far = ap length so_far ∙ length-map (received journal count) length ∙ received-length journal count

-- how many bytes a channel has received stands at its place
pub lengths-at : (lengths : List ℕ) (journal : List Entry) (count place : ℕ) → lengths ≡ map length (received journal count) → place < count → get_or lengths place 0 ≡ length (channel_bytes journal place)
lengths-at lengths journal count place so_far inside =
    ap (λ (ns : List ℕ). get_or ns place 0) so_far ∙ get_or-map length (received journal count) place [] ∙ ap length (received-at journal count place inside)

-- the length of a channel has that of the text of an entry more
pub lengths-grown : (lengths : List ℕ) (journal : List Entry) (entry : Entry) (count target : ℕ) (text : List ℕ) (new : ℕ) → lengths ≡ map length (received journal count)
    → entry.target ≡ Some target → target < length lengths → text ≡ sent entry.act entry.reply → new ≡ get_or lengths target 0 + length text
    → set lengths target new ≡ map length (received (journal ++ entry ∷ []) count)
lengths-grown lengths journal entry count target text new so_far is inside said more =
    let all = received journal count in
    let grown = get_or all target [] ++ text in
    let size : new ≡ length grown =
    more ∙ ap (λ (n : ℕ). n + length text) (ap (λ (ns : List ℕ). get_or ns target 0) so_far ∙ get_or-map length all target []) ∙ sym (length-append (get_or all target []) text) in
    ap (λ (ns : List ℕ). set ns target new) so_far ∙ ap (set (map length all) target) size ∙ sym (map-set length all target grown)
    ∙ ap (map length) (received-grown journal entry count target text is (omega (arith, inside, lengths-length lengths journal count so_far)) said)

-- no bytes at all
pub lengths-none : (count : ℕ) → replicate count 0 ≡ map length (received [] count)
lengths-none count =
    let none = map length (received [] count) in
    let long : length none ≡ count = length-map (received [] count) length ∙ received-length [] count in
    ext_get_or 0 (replicate count 0) none (length-replicate count 0 ∙ sym long)
    (λ k inside.
    let below : k < count = subst (λ (n : ℕ). k < n) (length-replicate count 0) inside in
    get_or-replicate count k 0 0 below ∙ sym (get_or-map length (received [] count) k [] ∙ ap length (received-at [] count k below)))

-- no lists are those of no channels
pub lists-no_channels : (lists : List (Vec ℕ Global)) (journal : List Entry) (count : ℕ) → lists ≡ [] → count ≡ 0 → bytes_of_lists lists ≡ received journal count
unfolding received
lists-no_channels lists journal count none no_channels = ap bytes_of_lists none ∙ sym (ap (received journal) no_channels)

-- nor are there counts of them
pub lengths-no_channels : (lengths : List ℕ) (journal : List Entry) (count : ℕ) → lengths ≡ [] → count ≡ 0 → lengths ≡ map length (received journal count)
unfolding received
lengths-no_channels lengths journal count none no_channels = none ∙ sym (ap (λ (n : ℕ). map length (received journal n)) no_channels)
