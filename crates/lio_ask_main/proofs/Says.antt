-- How the answers of the steps make the answer of the call.
use Rattle.std.proofs.Common.{◌≡◌, sym, subst, refl, ℕ, Bool, true, false, List, Option, Some, None, Ok, inl, inr}
use Rattle.lio_outside.specs.FileMap.{FileMap}
use Rattle.lio_outside.specs.Call.{Call}
use Rattle.lio_outside.specs.Count.{Faults}
use Rattle.lio_outside.specs.Asking.{Give}
use Rattle.lio_front.specs.declared.status.Status.{Status}
use Rattle.lio_front.specs.declared.status.Status.TheVariants.{Done, BadWords, SayFault, NoMemory, NotARun}
use Rattle.lio_front.specs.Status.{Says as Refuses}
use Rattle.lio_ask_main.specs.declared.answer.Answer.{Answer}
use Rattle.lio_ask_main.specs.declared.answer.Answer.TheVariants.{Plain}
use Rattle.lio_ask_main.specs.Past.{Past, StopsThePast, recalling}
use Rattle.lio_ask_main.specs.Telling.{TellsCounts, TellsLines}
use Rattle.lio_ask_main.specs.Words.{Files, Question, Help, Version, Explain, Table, Check, Audit, Lines, question_of}
use Rattle.lio_ask_main.specs.Answers.{AreTextsOf, IsAnswered, IsNotTaken, IsRefused, IsSaid, Says, Tells, answer_by}
use Rattle.lio_front.specs.Texts.{AreTexts}
use Rattle.lio_front.specs.declared.texts.Texts.{Texts}
use Rattle.lio_outside.specs.Said.{said_with}

-- a run that is taken again answers
pub is-audited : (told : Option FileMap) (files : Files) (past : Past) (text : List ℕ) (troubled : Bool) → Give told (recalling files) (Ok past) → TellsCounts past text troubled → IsAnswered told (Audit files) text troubled
is-audited told files past text troubled given (ran, is_of, counted) = (ran, record { past = past; given = given; is_of = is_of }, counted)

pub is-listed : (told : Option FileMap) (files : Files) (past : Past) (text : List ℕ) (troubled : Bool) → Give told (recalling files) (Ok past) → TellsLines past text troubled → IsAnswered told (Lines files) text troubled
is-listed told files past text troubled given (ran, is_of, listed) = (ran, record { past = past; given = given; is_of = is_of }, listed)

-- one that isn't refuses
pub not-taken : (told : Option FileMap) (files : Files) (past : Past) (before after : Faults) (status : Status) → Give told (recalling files) (Ok past) → StopsThePast past status → IsNotTaken told files before after status
not-taken told files past before after (NotARun line) given stops = record { past = past; given = given; stops = stops }
not-taken told files past before after NoMemory given stops = tt
not-taken told files past before after other given stops = absurd stops

-- nor do steps that are refused
pub not-read : (told : Option FileMap) (files : Files) (before after : Faults) (status : Status) → Refuses told (recalling files) before after status → IsNotTaken told files before after status
not-read told files before after (NotARun line) refuses = absurd refuses
not-read told files before after status refuses = refuses

-- memory is wanting for any question
wants-memory : (told : Option FileMap) (question : Question) (before after : Faults) → IsRefused told question before after NoMemory
wants-memory told Help before after = refl
wants-memory told Version before after = refl
wants-memory told (Explain file) before after = tt
wants-memory told (Table file) before after = tt
wants-memory told (Check policy script) before after = tt
wants-memory told (Audit files) before after = tt
wants-memory told (Lines files) before after = tt

-- no question is refused with an answer to it
never-done : (told : Option FileMap) (question : Question) (before after : Faults) → IsRefused told question before after Done → ⊥
never-done told Help before after refused = absurd (cc)
never-done told Version before after refused = absurd (cc)
never-done told (Explain file) before after refused = refused
never-done told (Table file) before after refused = refused
never-done told (Check policy script) before after refused = refused
never-done told (Audit files) before after refused = refused
never-done told (Lines files) before after refused = refused

never-unsaid : (told : Option FileMap) (question : Question) (before after : Faults) → IsRefused told question before after SayFault → ⊥
never-unsaid told Help before after refused = absurd (cc)
never-unsaid told Version before after refused = absurd (cc)
never-unsaid told (Explain file) before after refused = refused
never-unsaid told (Table file) before after refused = refused
never-unsaid told (Check policy script) before after refused = refused
never-unsaid told (Audit files) before after refused = refused
never-unsaid told (Lines files) before after refused = refused

-- a question that is refused
pub says-refused : (call : Call) (question : Question) (status : Status) → question_of call.words ≡ Some question → IsRefused call.before.told question call.before.faults call.after.faults status → call.after.said ≡ call.before.said
    → Says call (Plain status)
says-refused call question Done asks refused nothing = absurd (never-done call.before.told question call.before.faults call.after.faults refused)
says-refused call question BadWords asks refused nothing = inr (record { question = question; asks = asks; refused = refused; nothing = nothing })
says-refused call question SayFault asks refused nothing = absurd (never-unsaid call.before.told question call.before.faults call.after.faults refused)
says-refused call question status asks refused nothing = record { question = question; asks = asks; refused = refused; nothing = nothing }

-- a question of which all was said
says-all : (call : Call) (text : List ℕ) (troubled : Bool) → Tells call text troubled → call.after.said ≡ said_with call.before.said text → Says call (answer_by troubled)
says-all call text false tells said = (text, tells, said)
says-all call text true tells said = (text, tells, said)

-- a question that is answered, by what was said
says-tells : (call : Call) (text : List ℕ) (troubled : Bool) (answer : Answer) → Tells call text troubled → IsSaid call.before.said call.after.said call.before.say_faults call.after.say_faults text troubled answer → Says call answer
says-tells call text troubled answer tells (inl (is, said)) = subst (Says call) (sym is) (says-all call text troubled tells said)
says-tells call text troubled answer tells (inr (inl (is, partly, rose))) =
    let says : Says call (Plain SayFault) = record { text = text; troubled = troubled; tells = tells; partly = partly; rose = rose } in
    subst (Says call) (sym is) says
says-tells call text troubled answer tells (inr (inr (is, nothing))) =
    let says : Says call (Plain NoMemory) = record { question = tells.question; asks = tells.asks; refused = wants-memory call.before.told tells.question call.before.faults call.after.faults; nothing = nothing } in
    subst (Says call) (sym is) says

pub says-told : (call : Call) (text : List ℕ) (troubled : Bool) (answer : Answer) (question : Question) → question_of call.words ≡ Some question → IsAnswered call.before.told question text troubled
    → IsSaid call.before.said call.after.said call.before.say_faults call.after.say_faults text troubled answer → Says call answer
says-told call text troubled answer question asks answered said = says-tells call text troubled answer (record { question = question; asks = asks; is_answered = answered }) said

-- words ask one question
of-question : (words : List (List ℕ)) (one other : Question) → question_of words ≡ Some one → question_of words ≡ Some other → one ≡ other
of-question words one other first second = let both = first in let again = second in cc

-- no texts are those of any question
none-read : (told : Option FileMap) (policy script : List ℕ) (texts : Texts) → texts.policy ≡ None → texts.script ≡ None → AreTexts told policy script texts
none-read told policy script texts first second = record {
  policy = rw first tt;
  script = rw second tt;
}

pub none-of : (told : Option FileMap) (question : Question) (texts : Texts) → texts.policy ≡ None → texts.script ≡ None → AreTextsOf told question texts
none-of told Help texts first second = tt
none-of told Version texts first second = tt
none-of told (Explain file) texts first second = rw first tt
none-of told (Table file) texts first second = rw first tt
none-of told (Check policy script) texts first second = none-read told policy script texts first second
none-of told (Audit files) texts first second = none-read told files.policy files.script texts first second
none-of told (Lines files) texts first second = none-read told files.policy files.script texts first second

-- the texts of the question that words ask
pub texts-of : (told : Option FileMap) (words : List (List ℕ)) (one other : Question) (texts : Texts) → question_of words ≡ Some one → question_of words ≡ Some other → AreTextsOf told one texts → AreTextsOf told other texts
texts-of told words one other texts first second read = subst (λ (q : Question). AreTextsOf told q texts) (of-question words one other first second) read
