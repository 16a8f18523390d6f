use Rattle.std.proofs.Common.{◌≡◌, ◌∙◌, sym, subst, rules, true, All}
use Rattle.lio_calculus.specs.Laws.{IsShownContent}
use Rattle.lio_calculus.proofs.PurityLemmas.{open-inner}
use Rattle.lio_erasure.specs.LowParts.{ErasedState, low_of}
use Rattle.lio_erasure.specs.Turn.{Stays}
use Rattle.lio_erasure.specs.declared.low.LowFault.TheVariants.{Still}
use Rattle.lio_audit.proofs.SeenLemmas.{follows-took, not-followed, still-low}
use Rattle.lio_audit.proofs.view.follow.Goals as goal

pub turn-requires : goal.turn-requires
turn-requires c =
    let holds : c.are_shown.result ≡ true = search rules in
    let shown : All IsShownContent c.args.released.now = subst (All IsShownContent) c.as_slice.ensures (c.are_shown.ensures.yes holds) in
    λ k d within. open-inner _ (shown k d within)

pub returns-in-Ok : goal.returns-in-Ok
returns-in-Ok c =
    let holds : c.are_shown.result ≡ true = search rules in
    let shown : All IsShownContent c.args.released.now = subst (All IsShownContent) c.as_slice.ensures (c.are_shown.ensures.yes holds) in
    follows-took (low_of c.args.low.now) (low_of c.turn.new.self) c.args.entry.now c.in-Ok.taken c.args.released.now c.turn.new.releases c.is_shown_by-same.result c.requires.released c.requires.ticket shown c.in-Ok.ensures.ok
    (λ e. let both = c.is_shown_by-same.ensures.yes e in (both.0, sym c.as_slice-left.ensures ∙ both.1)) (λ e same none. c.is_shown_by-same.ensures.no e same (c.as_slice-left.ensures ∙ none))

pub returns-in-Err-Still : goal.returns-in-Err-Still
returns-in-Err-Still c =
    let s : ErasedState = low_of c.args.low.now in
    let stays : Stays s c.args.entry.now.actor c.args.released.now (Still c.in-Err-Still.field-0-0) = rw c.in-Err-Still.field-0-is at c.in-Err-Still.ensures.fault in
    not-followed s (low_of c.turn.new.self) c.args.entry.now c.args.released.now c.requires.released c.requires.ticket
    (λ turn takes shows left all. still-low s.observer s.configuration c.args.entry.now.actor c.args.released.now turn stays.1 takes)
