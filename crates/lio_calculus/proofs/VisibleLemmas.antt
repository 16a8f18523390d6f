-- A turn of a task below the observer is the erased turn.
use Rattle.std.proofs.Common.{◌≡◌, ◌∙◌, refl, sym, ap, subst, Bool, true, false, not, ◌&&◌, if◌then◌else◌, List, [], ◌∷◌, ◌++◌, Some, None}
use Rattle.lio_labels.specs.declared.label.Label.{Label}
use Rattle.lio_labels.specs.declared.privilege.Priv.{Priv}
use Rattle.lio_labels.specs.Flow.{flows}
use Rattle.lio_values.specs.declared.value.Content.{Content}
use Rattle.lio_values.specs.declared.value.Content.TheVariants.{Kept, Faulted, Hidden}
use Rattle.lio_values.specs.declared.act.Act.{Act}
use Rattle.lio_values.specs.declared.act.Act.TheVariants as act
use Rattle.lio_values.specs.declared.act.Reply.{Reply}
use Rattle.lio_values.specs.declared.act.Reply.TheVariants.{Done, Got, Told, Refused}
use Rattle.lio_values.specs.declared.entry.Entry.{Entry}
use Rattle.lio_values.proofs.ErasureLemmas.{entry_erased_twice}
use Rattle.lio_values.specs.Erasure.{erase_content, erase_act, erase_reply}
use Rattle.lio_cells.specs.declared.state.State.{State}
use Rattle.lio_cells.specs.State.{state_after}
use Rattle.lio_calculus.specs.Hiding.{hide_asked}
use Rattle.lio_calculus.proofs.PlanLemmas.{hidden-twice}
use Rattle.lio_calculus.proofs.CellLemmas.{state_after-hidden}
use Rattle.lio_calculus.specs.Guarded.{IsShown, IsNoRelease}
use Rattle.lio_calculus.specs.Sound.{InnerIsOpen}
use Rattle.lio_values.specs.Views.{inner_of}
use Rattle.lio_events.specs.Views.{released_to}
use Rattle.lio_calculus.specs.Erased.{hide_state, opened_release, opened}

-- an act as the erased calculus takes it: to the observer it is the act, and it does to a seen state what the act does
pub record Appears (observer : Label) (asked seen : Act) : Type 0 where
  pub entry : erase_act observer seen ≡ erase_act observer asked
  pub state : (state : State) → state_after (hide_state observer state) seen ≡ hide_state observer (state_after state asked)

-- a content that isn't hidden needs no opening
not-opened : (observer : Label) (asked : Act) (target : Label) (into : Content → Act) (content : Content) (contents : List Content) → (content ≡ Hidden → ⊥) → opened_release observer asked target into content contents ≡ Some (record { act = asked; left = contents })
not-opened observer asked target into Hidden contents real = absurd (real refl)
not-opened observer asked target into (Kept plain) contents real = refl
not-opened observer asked target into (Faulted fault) contents real = refl

-- what a release or an exposure opens, whatever act its content makes
pub record Opens (observer source target : Label) (into : Content → Act) (content : Content) (rest : List Content) : Type 0 where
  pub seen : Content
  pub opens : opened_release observer (into (erase_content observer source content)) target into (erase_content observer source content) ((if not (flows source observer) && flows target observer then content ∷ [] else []) ++ rest)
      ≡ Some (record { act = into seen; left = rest })
  pub alike : erase_content observer target seen ≡ erase_content observer target content

opens-learned : (observer source target : Label) (into : Content → Act) (content : Content) (rest : List Content) → (content ≡ Hidden → ⊥) → flows source observer ≡ true → Opens observer source target into content rest
unfolding erase_content
opens-learned observer source target into content rest real is = record {
  seen = content;
  opens = rw is (not-opened observer (into content) target into content rest real);
  alike = refl;
}

opens-released : (observer source target : Label) (into : Content → Act) (content : Content) (rest : List Content) → flows source observer ≡ false → flows target observer ≡ true → Opens observer source target into content rest
unfolding erase_content
opens-released observer source target into content rest is to = record {
  seen = content;
  opens = rw is (rw to refl);
  alike = refl;
}

opens-hidden : (observer source target : Label) (into : Content → Act) (content : Content) (rest : List Content) → flows source observer ≡ false → flows target observer ≡ false → Opens observer source target into content rest
unfolding erase_content
opens-hidden observer source target into content rest is to = record {
  seen = Hidden;
  opens = rw is (rw to refl);
  alike = rw to refl;
}

release-opens : (observer source target : Label) (into : Content → Act) (content : Content) (rest : List Content) → (content ≡ Hidden → ⊥) → Opens observer source target into content rest
release-opens observer source target into content rest real = by_source (flows source observer) refl (flows target observer) refl
  where
    by_source : (s : Bool) → flows source observer ≡ s → (t : Bool) → flows target observer ≡ t → Opens observer source target into content rest
    by_source true is t to = opens-learned observer source target into content rest real is
    by_source false is true to = opens-released observer source target into content rest is to
    by_source false is false to = opens-hidden observer source target into content rest is to

-- what an act opens and how it then appears
pub record Taken (observer : Label) (asked : Act) (reply : Reply) (rest : List Content) : Type 0 where
  pub seen : Act
  pub opens : opened observer (hide_asked observer asked) (erase_reply observer reply) (released_to observer asked reply ++ rest) ≡ Some (record { act = seen; left = rest })
  pub appears : Appears observer asked seen
  pub same : IsNoRelease asked → seen ≡ hide_asked observer asked

-- erasing twice
erase_act-twice : (observer : Label) (asked : Act) → erase_act observer (erase_act observer asked) ≡ erase_act observer asked
erase_act-twice observer asked = ap (λ (e : Entry). e.act) (entry_erased_twice observer (record { ticket = 0; actor = 0; target = None; at = observer; act = asked; reply = Done }))

pub erase_reply-twice : (observer : Label) (reply : Reply) → erase_reply observer (erase_reply observer reply) ≡ erase_reply observer reply
erase_reply-twice observer reply = ap (λ (e : Entry). e.reply) (entry_erased_twice observer (record { ticket = 0; actor = 0; target = None; at = observer; act = act.Step; reply = reply }))

asked-twice : (observer : Label) (asked : Act) → IsNoRelease asked → erase_act observer (hide_asked observer asked) ≡ erase_act observer asked
unfolding hide_asked
asked-twice observer (act.Release source target power content) plain = absurd plain
asked-twice observer (act.Expose source target power content) plain = absurd plain
asked-twice observer (act.Write value) plain = erase_act-twice observer (act.Write value)
asked-twice observer (act.Put value) plain = erase_act-twice observer (act.Put value)
asked-twice observer (act.NewRef label value) plain = erase_act-twice observer (act.NewRef label value)
asked-twice observer (act.NewVar label value) plain = erase_act-twice observer (act.NewVar label value)
asked-twice observer (act.Fork birth) plain = erase_act-twice observer (act.Fork birth)
asked-twice observer (act.Spawn birth) plain = erase_act-twice observer (act.Spawn birth)
asked-twice observer asked plain = refl

opened-plain : (observer : Label) (asked : Act) (reply : Reply) (rest : List Content) → IsNoRelease asked
    → opened observer (hide_asked observer asked) (erase_reply observer reply) (released_to observer asked reply ++ rest) ≡ Some (record { act = hide_asked observer asked; left = rest })
unfolding opened released_to hide_asked
opened-plain observer (act.Release source target power content) reply rest plain = absurd plain
opened-plain observer (act.Expose source target power content) reply rest plain = absurd plain
opened-plain observer asked reply rest plain = refl

taken-plain : (observer : Label) (asked : Act) (reply : Reply) (rest : List Content) → IsNoRelease asked → Taken observer asked reply rest
taken-plain observer asked reply rest plain = record {
  seen = hide_asked observer asked;
  opens = opened-plain observer asked reply rest plain;
  appears = record { entry = asked-twice observer asked plain; state = λ state. state_after-hidden observer state asked };
  same = λ _. refl;
}

-- a release that is carried out
taken-release : (observer source target : Label) (power : Priv) (content : Content) (rest : List Content) → (content ≡ Hidden → ⊥) → Taken observer (act.Release source target power content) Done rest
unfolding opened released_to hide_asked state_after
taken-release observer source target power content rest real =
    let o : Opens observer source target (act.Release source target power) content rest = release-opens observer source target (act.Release source target power) content rest real in record {
      seen = act.Release source target power o.seen;
      opens = o.opens;
      appears = record { entry = ap (λ (c : Content). act.Release source target power c) o.alike; state = λ state. refl };
      same = λ plain. absurd plain;
    }

-- a release that is refused
refused-opens : (observer source target : Label) (power : Priv) (content : Content) (reply : Reply) (rest : List Content) → (reply ≡ Done → ⊥)
    → opened observer (hide_asked observer (act.Release source target power content)) (erase_reply observer reply) (released_to observer (act.Release source target power content) reply ++ rest)
    ≡ Some (record { act = hide_asked observer (act.Release source target power content); left = rest })
unfolding opened released_to hide_asked
refused-opens observer source target power content Done rest refused = absurd (refused refl)
refused-opens observer source target power content (Got value) rest refused = refl
refused-opens observer source target power content (Told told) rest refused = refl
refused-opens observer source target power content (Refused fault) rest refused = refl

taken-refused : (observer source target : Label) (power : Priv) (content : Content) (reply : Reply) (rest : List Content) → content ≡ Hidden → (reply ≡ Done → ⊥) → Taken observer (act.Release source target power content) reply rest
unfolding hide_asked state_after
taken-refused observer source target power content reply rest hidden refused = record {
  seen = act.Release source target power (erase_content observer source content);
  opens = refused-opens observer source target power content reply rest refused;
  appears = record {
    entry = ap (λ (c : Content). act.Release source target power (erase_content observer target c)) (ap (erase_content observer source) hidden ∙ hidden-twice observer source ∙ sym hidden);
    state = λ state. refl;
  };
  same = λ plain. absurd plain;
}

-- an exposure that is carried out
taken-exposure : (observer source target : Label) (power : Priv) (content : Content) (rest : List Content) → (content ≡ Hidden → ⊥) → Taken observer (act.Expose source target power content) Done rest
unfolding opened released_to hide_asked state_after
taken-exposure observer source target power content rest real =
    let o : Opens observer source target (act.Expose source target power) content rest = release-opens observer source target (act.Expose source target power) content rest real in record {
      seen = act.Expose source target power o.seen;
      opens = o.opens;
      appears = record { entry = ap (λ (c : Content). act.Expose source target power c) o.alike; state = λ state. refl };
      same = λ plain. absurd plain;
    }

-- an exposure that is refused
refused-exposes : (observer source target : Label) (power : Priv) (content : Content) (reply : Reply) (rest : List Content) → (reply ≡ Done → ⊥)
    → opened observer (hide_asked observer (act.Expose source target power content)) (erase_reply observer reply) (released_to observer (act.Expose source target power content) reply ++ rest)
    ≡ Some (record { act = hide_asked observer (act.Expose source target power content); left = rest })
unfolding opened released_to hide_asked
refused-exposes observer source target power content Done rest refused = absurd (refused refl)
refused-exposes observer source target power content (Got value) rest refused = refl
refused-exposes observer source target power content (Told told) rest refused = refl
refused-exposes observer source target power content (Refused fault) rest refused = refl

taken-unexposed : (observer source target : Label) (power : Priv) (content : Content) (reply : Reply) (rest : List Content) → content ≡ Hidden → (reply ≡ Done → ⊥) → Taken observer (act.Expose source target power content) reply rest
unfolding hide_asked state_after
taken-unexposed observer source target power content reply rest hidden refused = record {
  seen = act.Expose source target power (erase_content observer source content);
  opens = refused-exposes observer source target power content reply rest refused;
  appears = record {
    entry = ap (λ (c : Content). act.Expose source target power (erase_content observer target c)) (ap (erase_content observer source) hidden ∙ hidden-twice observer source ∙ sym hidden);
    state = λ state. refl;
  };
  same = λ plain. absurd plain;
}

-- what isn't hidden
not-hidden : (content : Content) → InnerIsOpen (inner_of content) → content ≡ Hidden → ⊥
not-hidden content shown hidden = subst (λ (c : Content). InnerIsOpen (inner_of c)) hidden shown

-- what an act opens, and how it then appears
pub taken : (observer : Label) (asked : Act) (reply : Reply) (rest : List Content) → IsShown asked reply → Taken observer asked reply rest
taken observer (act.Release source target power content) Done rest shown = taken-release observer source target power content rest (not-hidden content shown)
taken observer (act.Release source target power content) (Got value) rest shown = taken-refused observer source target power content (Got value) rest shown (λ e. absurd (cc))
taken observer (act.Release source target power content) (Told told) rest shown = taken-refused observer source target power content (Told told) rest shown (λ e. absurd (cc))
taken observer (act.Release source target power content) (Refused fault) rest shown = taken-refused observer source target power content (Refused fault) rest shown (λ e. absurd (cc))
taken observer (act.Expose source target power content) Done rest shown = taken-exposure observer source target power content rest (not-hidden content shown)
taken observer (act.Expose source target power content) (Got value) rest shown = taken-unexposed observer source target power content (Got value) rest shown (λ e. absurd (cc))
taken observer (act.Expose source target power content) (Told told) rest shown = taken-unexposed observer source target power content (Told told) rest shown (λ e. absurd (cc))
taken observer (act.Expose source target power content) (Refused fault) rest shown = taken-unexposed observer source target power content (Refused fault) rest shown (λ e. absurd (cc))
taken observer asked reply rest shown = taken-plain observer asked reply rest tt
