-- What the files are that a run writes.
use Rattle.std.proofs.Common.{◌≡◌, ◌≢◌, ◌∙◌, sym, ap, refl, subst, ℕ, zero, suc, ◌+◌, ◌<◌, ◌≤◌, arith, Bool, true, false, List, [], ◌∷◌, ◌++◌, map, length, get_or, take, drop, Option, Some, None, slice_get, inl, inr, Result, Ok, Err, OnOk, IfErr}
use Rattle.std.proofs.lemmas.List.{length-take-le, take_all, map-append, take-append-drop}
use Rattle.lio_outside.specs.FileMap.{FileMap}
use Rattle.lio_outside.specs.Keep.{PartlyKept}
use Rattle.lio_outside.specs.Outputs.{Output, kept, StopsAt}
use Rattle.lio_outside.specs.Taken.{first_taken}
use Rattle.lio_outside.specs.Count.{Faults}
use Rattle.lio_outside.proofs.CountLemmas.{FailedAt-in_part}
use Rattle.lio_outside.proofs.OutputLemmas.{AreApart, AreOthers, IsOneOf, apart-free, each-holds, keeps-before, keeps-behind, kept-append, one-before, one-behind, others-append, others-stay, stops-before, stops-behind}
use Rattle.lio_values.specs.declared.entry.Entry.{Entry}
use Rattle.lio_events.specs.ChannelBytes.{channel_bytes}
use Rattle.lio_events.specs.JournalText.{journal_text}
use Rattle.lio_policy.specs.declared.policy.FileEntry.{FileEntry}
use Rattle.lio_policy.specs.Policy.{PolicyParts}
use Rattle.lio_front.specs.declared.status.Status.{Status}
use Rattle.lio_front.specs.declared.status.Status.TheVariants.{WriteFault, NoMemory}
use Rattle.lio_front.specs.Clash.{clash, is_read, names_written}
use Rattle.lio_front.specs.Laws.{OutputsHoldEachFile, name_list}
use Rattle.lio_front.specs.Outputs.{journal_output, output_of, outputs, outputs_from, OutSays}
use Rattle.lio_front.proofs.InputLemmas.{take-next}

-- what holds of an answer, and what follows from it
pub on_ok : {A E : Type 0} → (r : Result A E) (P Q : Type 0) → (P → Q) → OnOk r P → OnOk r Q
on_ok (Ok a) P Q then_ holds = then_ holds
on_ok (Err e) P Q then_ holds = holds

pub if_err : {A E : Type 0} → (r : Result A E) (P Q : E → Type 0) → ((e : E) → P e → Q e) → IfErr r P → IfErr r Q
if_err (Ok a) P Q then_ holds = holds
if_err (Err e) P Q then_ holds = then_ e holds

-- files that aren't all written, before others that aren't reached
pub out-before : (told now : Option FileMap) (xs ys : List Output) (before after : Faults) (fault : Status) → OutSays told now xs before after fault → OutSays told now (xs ++ ys) before after fault
out-before told now xs ys before after (WriteFault name) says = (stops-before told now xs ys name says.0, says.1)
out-before told now xs ys before after NoMemory says = keeps-before told now xs ys says
out-before told now xs ys before after other says = absurd says

-- and behind others that are whole
pub out-behind : (told kept_so_far now : Option FileMap) (xs ys : List Output) (before middle after : Faults) (fault : Status) → before.count ≤ middle.count → kept_so_far ≡ kept told xs → OutSays kept_so_far now ys middle after fault
    → OutSays told now (xs ++ ys) before after fault
out-behind told kept_so_far now xs ys before middle after (WriteFault name) first is says = (stops-behind told kept_so_far now xs ys name is says.0, FailedAt-in_part name before middle after first says.1)
out-behind told kept_so_far now xs ys before middle after NoMemory first is says = keeps-behind told kept_so_far now xs ys is says
out-behind told kept_so_far now xs ys before middle after other first is says = absurd says

outputs-append : (journal : List Entry) (n : ℕ) (xs ys : List FileEntry) → outputs_from journal n (xs ++ ys) ≡ outputs_from journal n xs ++ outputs_from journal (n + length xs) ys
outputs-append journal n [] ys = ap (λ (m : ℕ). outputs_from journal m ys) (omega arith)
outputs-append journal n (x ∷ xs) ys =
    ap (λ (rest : List Output). output_of journal n x ∷ rest) (outputs-append journal (n + 1) xs ys ∙ ap (λ (m : ℕ). outputs_from journal (n + 1) xs ++ outputs_from journal m ys) (omega arith))

-- the files of the channels up to the next
outputs-next : (journal : List Entry) (channels : List FileEntry) (i : ℕ) (channel : FileEntry) → i < length channels → channel ≡ get_or channels i channel
    → outputs_from journal 0 (take (i + 1) channels) ≡ outputs_from journal 0 (take i channels) ++ output_of journal i channel ∷ []
outputs-next journal channels i channel below is =
    let place : 0 + length (take i channels) ≡ i = omega (arith, length-take-le i channels (omega (arith, below))) in
    ap (outputs_from journal 0) (take-next channels i channel below is) ∙ outputs-append journal 0 (take i channels) (channel ∷ [])
    ∙ ap (λ (m : ℕ). outputs_from journal 0 (take i channels) ++ outputs_from journal m (channel ∷ [])) place

-- all of them stand before the rest
outputs-split : (journal : List Entry) (channels : List FileEntry) (n : ℕ) → outputs_from journal 0 channels ≡ outputs_from journal 0 (take n channels) ++ outputs_from journal (length (take n channels)) (drop n channels)
outputs-split journal channels n = ap (outputs_from journal 0) (sym (take-append-drop n channels)) ∙ outputs-append journal 0 (take n channels) (drop n channels)
    ∙ ap (λ (m : ℕ). outputs_from journal 0 (take n channels) ++ outputs_from journal m (drop n channels)) (omega arith)

-- one channel more is kept
pub kept-next : (told now after : Option FileMap) (journal : List Entry) (channels : List FileEntry) (i : ℕ) (channel : FileEntry) → i < length channels → channel ≡ get_or channels i channel
    → now ≡ kept told (outputs_from journal 0 (take i channels)) → after ≡ kept now (output_of journal i channel ∷ []) → after ≡ kept told (outputs_from journal 0 (take (i + 1) channels))
kept-next told now after journal channels i channel below is before one =
    one ∙ ap (λ (t : Option FileMap). kept t (output_of journal i channel ∷ [])) before ∙ sym (kept-append told (outputs_from journal 0 (take i channels)) (output_of journal i channel ∷ []))
    ∙ ap (kept told) (sym (outputs-next journal channels i channel below is))

-- one file isn't written
pub stops-one : (told now : Option FileMap) (file : Output) → PartlyKept told now file.name file.bytes → StopsAt told now (file ∷ []) file.name
stops-one told now file partly = record { before = []; output = file; after = []; files_are = refl; name_is = refl; partly = partly }

-- all channels
pub kept-all : (told now : Option FileMap) (journal : List Entry) (channels : List FileEntry) (i : ℕ) → length channels ≤ i → now ≡ kept told (outputs_from journal 0 (take i channels)) → now ≡ kept told (outputs_from journal 0 channels)
kept-all told now journal channels i past before = before ∙ ap (λ (cs : List FileEntry). kept told (outputs_from journal 0 cs)) (take_all i channels past)

-- one channel's file isn't written
pub out-says : (told now after : Option FileMap) (journal : List Entry) (channels : List FileEntry) (i : ℕ) (channel : FileEntry) (begun middle ended : Faults) (fault : Status) → i < length channels → channel ≡ get_or channels i channel
    → now ≡ kept told (outputs_from journal 0 (take i channels)) → begun.count ≤ middle.count → OutSays now after (output_of journal i channel ∷ []) middle ended fault
    → OutSays told after (outputs_from journal 0 channels) begun ended fault
out-says told now after journal channels i channel begun middle ended fault below is so_far first says =
    let next = outputs-next journal channels i channel below is in
    let all = outputs-split journal channels (i + 1) in
    subst (λ (files : List Output). OutSays told after files begun ended fault)
    (ap (λ (files : List Output). files ++ outputs_from journal (length (take (i + 1) channels)) (drop (i + 1) channels)) (sym next) ∙ sym all)
    (out-before told after (outputs_from journal 0 (take i channels) ++ output_of journal i channel ∷ []) (outputs_from journal (length (take (i + 1) channels)) (drop (i + 1) channels)) begun ended fault
    (out-behind told now after (outputs_from journal 0 (take i channels)) (output_of journal i channel ∷ []) begun middle ended fault first so_far says))

-- the files of a history and a view behind those of the channels
pub kept-both : (told first second now : Option FileMap) (xs ys zs : List Output) → first ≡ kept told xs → second ≡ kept first ys → now ≡ kept second zs → now ≡ kept told (xs ++ (ys ++ zs))
kept-both told first second now xs ys zs a b c =
    c ∙ ap (λ (t : Option FileMap). kept t zs) b ∙ ap (λ (t : Option FileMap). kept (kept t ys) zs) a
    ∙ sym (kept-append told xs (ys ++ zs) ∙ kept-append (kept told xs) ys zs)

-- the history isn't written
pub out-history : (told first now : Option FileMap) (xs ys zs : List Output) (before middle after : Faults) (fault : Status) → before.count ≤ middle.count → first ≡ kept told xs → OutSays first now ys middle after fault
    → OutSays told now (xs ++ (ys ++ zs)) before after fault
out-history told first now xs ys zs before middle after fault below is says =
    out-behind told first now xs (ys ++ zs) before middle after fault below is (out-before first now ys zs middle after fault says)

-- the view isn't written
pub out-view : (told first second now : Option FileMap) (xs ys zs : List Output) (before one two after : Faults) (fault : Status) → before.count ≤ one.count → one.count ≤ two.count → first ≡ kept told xs → second ≡ kept first ys
    → OutSays second now zs two after fault → OutSays told now (xs ++ (ys ++ zs)) before after fault
out-view told first second now xs ys zs before one two after fault a b is then_is says =
    out-behind told first now xs (ys ++ zs) before one after fault a is (out-behind first second now ys zs one two after fault b then_is says)

-- the names of the files that a run writes
names-from : (journal : List Entry) (n : ℕ) (channels : List FileEntry) → map (λ (o : Output). o.name) (outputs_from journal n channels) ≡ map (λ (c : FileEntry). c.file) channels
names-from journal n [] = refl
names-from journal n (c ∷ channels) = ap (λ (rest : List (List ℕ)). c.file ∷ rest) (names-from journal (n + 1) channels)

names-journal : (names : List (List ℕ)) (ticket : Bool) (journal : List Entry) (file : Option (List ℕ)) → map (λ (o : Output). o.name) (journal_output names ticket journal file) ≡ name_list file
names-journal names ticket journal None = refl
names-journal names ticket journal (Some file) = refl

names-outputs : (policy : PolicyParts) (journal : List Entry) (history view : Option (List ℕ)) (seen : List Entry) → map (λ (o : Output). o.name) (outputs policy journal history view seen) ≡ names_written policy (name_list history ++ name_list view)
names-outputs policy journal history view seen =
    let name : Output → List ℕ = λ o. o.name in
    let channels = outputs_from journal 0 policy.channels in
    let first = journal_output policy.names true journal history in
    let second = journal_output policy.names false seen view in
    map-append name channels (first ++ second)
    ∙ ap (λ (rest : List (List ℕ)). map name channels ++ rest) (map-append name first second ∙ ap (λ (rest : List (List ℕ)). map name first ++ rest) (names-journal policy.names false seen view) ∙ ap (λ (rest : List (List ℕ)). rest ++ name_list view) (names-journal policy.names true journal history))
    ∙ ap (λ (rest : List (List ℕ)). rest ++ (name_list history ++ name_list view)) (names-from journal 0 policy.channels)

-- a channel's file is one of those that are written
channel-one : (journal : List Entry) (n : ℕ) (channels : List FileEntry) (i : ℕ) (channel : FileEntry) → slice_get channels i ≡ Some channel → IsOneOf (output_of journal (n + i) channel) (outputs_from journal n channels)
channel-one journal n [] i channel at = absurd (cc)
channel-one journal n (c ∷ channels) zero channel at =
    let same : c ≡ channel = cc in
    inl (ap (output_of journal n) same ∙ ap (λ (m : ℕ). output_of journal m channel) (omega arith))
channel-one journal n (c ∷ channels) (suc i) channel at =
    inr (subst (λ (m : ℕ). IsOneOf (output_of journal m channel) (outputs_from journal (n + 1) channels)) (omega arith) (channel-one journal (n + 1) channels i channel at))

journal-one : (names : List (List ℕ)) (ticket : Bool) (journal : List Entry) (file : Option (List ℕ)) (name : List ℕ) → file ≡ Some name → IsOneOf (record { name = name; bytes = journal_text names ticket journal }) (journal_output names ticket journal file)
journal-one names ticket journal None name is = absurd (cc)
journal-one names ticket journal (Some file) name is = let same : file ≡ name = cc in inl (ap (λ (f : List ℕ). record { name = f; bytes = journal_text names ticket journal }) same)

-- a name that is no channel's
channels-others : (journal : List Entry) (n : ℕ) (channels : List FileEntry) (name : List ℕ) → ((i : ℕ) (channel : FileEntry) → slice_get channels i ≡ Some channel → name ≢ channel.file) → AreOthers name (outputs_from journal n channels)
channels-others journal n [] name apart = tt
channels-others journal n (c ∷ channels) name apart = (λ same. apart 0 c refl (sym same), channels-others journal (n + 1) channels name (λ i channel at. apart (suc i) channel at))

journal-others : (names : List (List ℕ)) (ticket : Bool) (journal : List Entry) (file : Option (List ℕ)) (name : List ℕ) → file ≢ Some name → AreOthers name (journal_output names ticket journal file)
journal-others names ticket journal None name apart = tt
journal-others names ticket journal (Some file) name apart = (λ same. apart (ap Some same), tt)

pub outputs_hold_each_file : OutputsHoldEachFile
unfolding clash
outputs_hold_each_file policy journal history view seen read before now free is =
    let files = outputs policy journal history view seen in
    let channels = outputs_from journal 0 policy.channels in
    let first = journal_output policy.names true journal history in
    let second = journal_output policy.names false seen view in
    let apart : AreApart files = apart-free (is_read read policy) [] files (ap (λ (names : List (List ℕ)). first_taken (is_read read policy) [] names) (names-outputs policy journal history view seen) ∙ free) in
    record {
      channels = λ number channel at. each-holds files before now (output_of journal number channel) apart is (one-before (output_of journal number channel) channels (first ++ second) (subst (λ (m : ℕ). IsOneOf (output_of journal m channel) channels) (omega arith) (channel-one journal 0 policy.channels number channel at)));
      history = λ file at. each-holds files before now (record { name = file; bytes = journal_text policy.names true journal }) apart is (one-behind _ channels (first ++ second) (one-before _ first second (journal-one policy.names true journal history file at)));
      view = λ file at. each-holds files before now (record { name = file; bytes = journal_text policy.names false seen }) apart is (one-behind _ channels (first ++ second) (one-behind _ first second (journal-one policy.names false seen view file at)));
      others = λ name none. others-stay files before now name (others-append name channels (first ++ second) (channels-others journal 0 policy.channels name none.channels)
          (others-append name first second (journal-others policy.names true journal history name none.history) (journal-others policy.names false seen view name none.view))) is;
    }

-- a file with a channel's name and what the channel received
pub output-is : (journal : List Entry) (number : ℕ) (channel : FileEntry) (name bytes : List ℕ) → name ≡ channel.file → bytes ≡ channel_bytes journal number → record { name = name; bytes = bytes } ≡ output_of journal number channel
output-is journal number channel name bytes named received =
    ap (λ (n : List ℕ). record { name = n; bytes = bytes }) named ∙ ap (λ (b : List ℕ). record { name = channel.file; bytes = b }) received
