-- What the reply has.
use Rattle.std.proofs.Common.{◌≡◌, ◌∙◌, ap, refl, sym, subst, ℕ, ◌+◌, ◌<◌, List, [], ◌∷◌, ◌++◌, length, get_or, take, append_assoc, append-nil, Option, None, Some}
use Rattle.std.proofs.lemmas.List.{take_more}
use Rattle.std.specs.Prelude.{IfSome}
use Rattle.lio_outside.specs.FileMap.{FileMap, bytes_of}
use Rattle.lio_front.specs.Command.{Command, command_of}
use Rattle.lio_front.specs.Clash.{names_written}
use Rattle.lio_front.specs.declared.status.Status.{Status}
use Rattle.lio_front.specs.declared.status.Status.TheVariants.{Done}
use Rattle.lio_start.specs.declared.job.Job.{Job}
use Rattle.lio_host_main.specs.Order.{Order, names_added}
use Rattle.lio_host_main.specs.Verdict.{IsJobOfVerdict}
use Rattle.lio_c.specs.Answers.{AreNamed, AreWritten, names_and_bytes, or_none}
use Rattle.lio_c.specs.Netstrings.{netstring, netstrings}

done-written : (files : FileMap) (words : List (List ℕ)) (job : Option Job) (names : List (List ℕ)) → IfSome job (IsJobOfVerdict (Some files) words) → AreNamed words Done job names → AreWritten files words Done names
done-written files words None names of named = absurd named
done-written files words (Some job) names of (command, commanded, named) =
    let order : Order = of.order in
    let same : Some command ≡ Some order.command = sym commanded ∙ of.verdict.command in
    let command_is : command ≡ order.command = cc in
    (order, of.verdict, named ∙ ap (λ (j : Job). names_written j.policy (names_added command)) of.job_is ∙ ap (λ (c : Command). names_written order.job.policy (names_added c)) command_is)

-- the files of the job that was run are those of the verdict
pub written-by : (files : FileMap) (words : List (List ℕ)) (status : Status) (job : Option Job) (names : List (List ℕ)) → IfSome job (IsJobOfVerdict (Some files) words) → AreNamed words status job names → AreWritten files words status names
written-by files words Done job names of named = done-written files words job names of named
written-by files words other job names of named = named

-- no name is named where not all was done
pub none-named : (words : List (List ℕ)) (status : Status) (job : Option Job) (names : List (List ℕ)) → (status ≡ Done → ⊥) → names ≡ [] → AreNamed words status job names
none-named words Done job names not none = absurd (not refl)
none-named words other job names not none = none

-- the files that the command of words writes of a job, where all was done
pub are-named : (words : List (List ℕ)) (status : Status) (found : Option Job) (job : Job) (command : Command) (names : List (List ℕ)) → status ≡ Done → found ≡ Some job → command_of words ≡ Some command
    → names ≡ names_written job.policy (names_added command) → AreNamed words status found names
are-named words status found job command names done is commanded named =
    subst (λ (s : Status). AreNamed words s found names) (sym done) (subst (λ (f : Option Job). AreNamed words Done f names) (sym is) (command, commanded, named))

-- the files of one name more
pub name-push : (files : FileMap) (names : List (List ℕ)) (name : List ℕ) → netstrings (names_and_bytes files (names ++ name ∷ [])) ≡ netstrings (names_and_bytes files names) ++ (netstring name ++ netstring (or_none (bytes_of files name)))
name-push files [] name = ap (λ more. netstring name ++ more) (append-nil (netstring (or_none (bytes_of files name))))
name-push files (first ∷ names) name =
    let more = netstrings (names_and_bytes files names) in
    let last = netstring name ++ netstring (or_none (bytes_of files name)) in
    ap (λ rest. netstring first ++ (netstring (or_none (bytes_of files first)) ++ rest)) (name-push files names name)
    ∙ ap (λ rest. netstring first ++ rest) (sym (append_assoc (netstring (or_none (bytes_of files first))) more last))
    ∙ sym (append_assoc (netstring first) (netstring (or_none (bytes_of files first)) ++ more) last)

-- one file more is printed behind those before it
pub files-more : (files : FileMap) (names : List (List ℕ)) (index : ℕ) (start old one now name bytes : List ℕ) → index < length names → name ≡ get_or names index [] → old ≡ start ++ netstrings (names_and_bytes files (take index names))
    → one ≡ old ++ netstring name → now ≡ one ++ netstring bytes → bytes ≡ or_none (bytes_of files name) → now ≡ start ++ netstrings (names_and_bytes files (take (index + 1) names))
files-more files names index start old one now name bytes below at before first second under =
    let all : List ℕ = netstrings (names_and_bytes files (take index names)) in
    let last : List ℕ = netstring name ++ netstring (or_none (bytes_of files name)) in
    let more : take (index + 1) names ≡ take index names ++ name ∷ [] = take_more names index [] below ∙ ap (λ (n : List ℕ). take index names ++ n ∷ []) (sym at) in
    second ∙ ap (λ b. b ++ netstring bytes) (first ∙ ap (λ b. b ++ netstring name) before) ∙ ap (λ (b : List ℕ). ((start ++ all) ++ netstring name) ++ netstring b) under
    ∙ append_assoc (start ++ all) (netstring name) (netstring (or_none (bytes_of files name))) ∙ append_assoc start all last
    ∙ ap (λ b. start ++ b) (sym (name-push files (take index names) name) ∙ ap (λ n. netstrings (names_and_bytes files n)) (sym more))
