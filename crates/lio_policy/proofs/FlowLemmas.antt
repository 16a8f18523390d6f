-- What flows with a privilege flows to a label as the privilege raises it; which clauses of a formula are left beyond some privileges; and so what a policy lets flow.
use Rattle.std.proofs.Common.{◌≡◌, ◌∙◌, refl, sym, ap, subst, ℕ, ◌+◌, ◌<◌, Bool, true, false, cond, not, ◌&&◌, ◌||◌, inl, inr, List, [], ◌∷◌, ◌++◌, length, map, take, get_or, IsTrue}
use Rattle.std.specs.Prelude.{◌↔◌, IsFalse}
use Rattle.std.specs.List.{filter, flat_map}
use Rattle.std.specs.Cmp.{both_ways as same_tests}
use Rattle.std.proofs.lemmas.Bool.{true≢false, not-true, cases_Bool, and_parts, and_from, or_cases, or_left, or_right}
use Rattle.std.proofs.lemmas.Grind.{flat_map-append}
use Rattle.std.proofs.lemmas.List.{append-nil, map-append, take_more}
use Rattle.lio_clauses.specs.Satisfaction.{sat}
use Rattle.lio_clauses.specs.Implication.{Implies, ImplyTogether, implies}
use Rattle.lio_clauses.specs.Canonical.{and}
use Rattle.lio_clauses.specs.Without.{without}
use Rattle.lio_clauses.proofs.Members.{In, In-append_left, In-append_right, In-append_cases, In-filter_parts, In-from_Contains}
use Rattle.lio_clauses.proofs.Implied.{sat-append, Implies-implies, implies-Implies, Implies-clause, clause-Implies, Implies-at, Implies-by, together-Implies, Implies-together}
use Rattle.lio_clauses.proofs.Algebra.{conjunction_is_canonical}
use Rattle.lio_clauses.proofs.Forms.{sat-and}
use Rattle.lio_clauses.proofs.WithoutLemmas.{without_is_canonical, without_is_made_up}
use Rattle.lio_labels.specs.declared.label.Label.{Label}
use Rattle.lio_labels.specs.declared.privilege.Priv.{Priv}
use Rattle.lio_labels.specs.Flow.{flows}
use Rattle.lio_labels.specs.Privilege.{FlowsWith, flows_with}
use Rattle.lio_labels.proofs.FlowLemmas.{flow_is_reflexive}
use Rattle.lio_labels.proofs.PrivilegeLemmas.{privilege_is_tested, flow_is_with_privilege}
use Rattle.lio_values.specs.declared.value.Plain.{Plain}
use Rattle.lio_values.specs.declared.value.Plain.TheVariants.{Power}
use Rattle.lio_policy.specs.Lists.{singles}
use Rattle.lio_policy.specs.Powers.{power_of, power_in, powers_of}
use Rattle.lio_policy.specs.Policy.{PolicyParts}
use Rattle.lio_policy.specs.declared.policy.Arg.{Arg}
use Rattle.lio_policy.specs.declared.policy.Arg.TheVariants.{Input, Fixed, Items}
use Rattle.lio_policy.proofs.ArgumentLemmas.{singles-input, singles-fixed, singles-items}
use Rattle.lio_policy.specs.declared.policy.FileEntry.{FileEntry}
use Rattle.lio_policy.specs.declared.flows.MayFlow.{MayFlow}
use Rattle.lio_policy.specs.declared.flows.MayFlow.TheVariants.{May, OnlyByPrivilege, Never}
use Rattle.lio_policy.specs.Flows.{clauses_of, together, raised, may_flow}
use Rattle.lio_policy.specs.FlowLaws.{FlowsToRaised, FlowsToItselfRaised, RaisedIsGreatest, RaisedIsLabel, PrivilegesCompose, Says, MayFlowIsExact, NeverIsAbove}

-- ---- labels as a privilege raises them

-- what a power and a formula imply together, without what the power implies alone, the formula implies
alone : (P B A : List (List ℕ)) → ImplyTogether P B A → Implies B (without A P)
unfolding without
alone P B A h =
    Implies-by B (without A P) (λ c m.
    let parts = In-filter_parts (λ c. not (implies P (c ∷ []))) c A m in
    let r = Implies-clause (P ++ B) c (Implies-at (P ++ B) A (together-Implies P B A h) c parts.0) in
    elim (In-append_cases r.0 P B r.1.0) [
      | inl i ↦ absurd (true≢false (sym (Implies-implies P (c ∷ []) (clause-Implies P r.0 c i r.1.1)) ∙ not-true (implies P (c ∷ [])) parts.1))
      | inr i ↦ clause-Implies B r.0 c i r.1.1
    ])

-- the same as tests
pub beside : (P B A : List (List ℕ)) → implies (P ++ B) A ≡ implies B (without A P)
beside P B A =
    same_tests (implies (P ++ B) A) (implies B (without A P))
    (λ t. Implies-implies B (without A P) (alone P B A (Implies-together P B A (implies-Implies (P ++ B) A t))))
    (λ t. Implies-implies (P ++ B) A (together-Implies P B A (λ who s u. without_is_made_up A P who s (implies-Implies B (without A P) t who u))))

-- flow with a privilege is told by what is left beyond it
pub flows_beyond : (p : Priv) (from to : Label) → flows_with p from to ≡ (implies to.secrecy (without from.secrecy p.power) && implies from.integrity (without to.integrity p.power))
unfolding flows_with
flows_beyond p from to =
    ap (λ b. b && implies (p.power ++ from.integrity) to.integrity) (beside p.power to.secrecy from.secrecy)
    ∙ ap (λ b. implies to.secrecy (without from.secrecy p.power) && b) (beside p.power from.integrity to.integrity)

-- the conjunction with the privilege's clauses implies what the two imply together
conjoined : (P B A : List (List ℕ)) → implies (P ++ B) A ≡ implies (and B P) A
conjoined P B A =
    same_tests (implies (P ++ B) A) (implies (and B P) A)
    (λ t. Implies-implies (and B P) A (λ who s.
    let parts = and_parts (sat who B) (sat who P) (sym (sat-and who B P) ∙ s) in
    Implies-together P B A (implies-Implies (P ++ B) A t) who parts.1 parts.0))
    (λ t. Implies-implies (P ++ B) A (together-Implies P B A (λ who s u.
    implies-Implies (and B P) A t who (sat-and who B P ∙ and_from (sat who B) (sat who P) u s))))

pub flows_to_raised : FlowsToRaised
unfolding flows_with flows raised
flows_to_raised p from to =
    ap (λ b. b && implies (p.power ++ from.integrity) to.integrity) (conjoined p.power to.secrecy from.secrecy)
    ∙ ap (λ b. implies (and to.secrecy p.power) from.secrecy && b) (beside p.power from.integrity to.integrity)

pub flows_to_itself_raised : FlowsToItselfRaised
flows_to_itself_raised p a = sym (flows_to_raised p a a) ∙ flow_is_with_privilege p a a (flow_is_reflexive a)

pub raised_is_greatest : RaisedIsGreatest
raised_is_greatest p a = (flows_to_raised p (raised p a) a ∙ flow_is_reflexive (raised p a), λ b h. sym (flows_to_raised p b a) ∙ h)

pub raised_is_label : RaisedIsLabel
unfolding raised
raised_is_label p a clauses la narrow = record {
  secrecy = conjunction_is_canonical a.secrecy p.power la.secrecy.clauses clauses;
  integrity = without_is_canonical a.integrity p.power la.integrity;
  narrow = narrow;
}

-- ---- privileges together

-- what satisfies all of some privileges satisfies each
each-satisfied : (powers : List Priv) (power : Priv) (who : ℕ → Bool) → In power powers → IsTrue (sat who (clauses_of powers)) → IsTrue (sat who power.power)
each-satisfied [] power who m s = absurd m
each-satisfied (q ∷ powers) power who (inl e) s =
    ap (λ (p : Priv). sat who p.power) e ∙ (and_parts (sat who q.power) (sat who (clauses_of powers)) (sym (sat-append who q.power (clauses_of powers)) ∙ s)).0
each-satisfied (q ∷ powers) power who (inr m) s =
    each-satisfied powers power who m (and_parts (sat who q.power) (sat who (clauses_of powers)) (sym (sat-append who q.power (clauses_of powers)) ∙ s)).1

pub privileges_compose : PrivilegesCompose
privileges_compose powers power from to label among released below =
    let all : Priv = together powers in
    let r : FlowsWith power from to = (privilege_is_tested power from to).0 released in
    let q : FlowsWith all to label = (privilege_is_tested all to label).0 (flows_to_raised all to label ∙ below) in
    let one : (who : ℕ → Bool) → IsTrue (sat who all.power) → IsTrue (sat who power.power) = λ who s. each-satisfied powers power who (In-from_Contains power powers among) s in
    sym (flows_to_raised all from label) ∙ (privilege_is_tested all from label).1 (
      λ who s t. r.0 who (one who s) (q.0 who s t),
      λ who s t. q.1 who s (r.1 who (one who s) t),
    )

-- ---- what may flow

pub may_flow_is_exact : MayFlowIsExact
unfolding may_flow
may_flow_is_exact policy input channel = by (flows input.label channel.label) refl (flows_with all input.label channel.label) refl
  where
    all : Priv
    all = together (powers_of policy)

    by : (plain : Bool) → flows input.label channel.label ≡ plain → (with_all : Bool) → flows_with all input.label channel.label ≡ with_all
        → Says all input.label channel.label (cond plain May (cond with_all OnlyByPrivilege Never))
    by true e with_all f = e
    by false e true f = (e, f)
    by false e false f = f

-- it is Never exactly where it doesn't flow with all privileges
never-exact : (policy : PolicyParts) (input channel : FileEntry) (flow : MayFlow) → Says (together (powers_of policy)) input.label channel.label flow
    → (flow ≡ Never) ↔ IsFalse (flows_with (together (powers_of policy)) input.label channel.label)
never-exact policy input channel May says = (
  λ e. absurd (cc),
  λ e. absurd (true≢false (sym (flow_is_with_privilege (together (powers_of policy)) input.label channel.label says) ∙ e)),
)
never-exact policy input channel OnlyByPrivilege says = (λ e. absurd (cc), λ e. absurd (true≢false (sym says.1 ∙ e)))
never-exact policy input channel Never says = (λ e. says, λ e. refl)

pub never_is_above : NeverIsAbove
never_is_above policy input channel =
    let exact = never-exact policy input channel (may_flow policy input channel) (may_flow_is_exact policy input channel) in
    let same = flows_to_raised (together (powers_of policy)) input.label channel.label in
    (λ e. sym same ∙ exact.0 e, λ e. exact.1 (same ∙ e))

-- ---- what is left of a formula

-- tests one after another
filter-both : {X : Type 0} (a p q : X → Bool) (xs : List X) → ((x : X) → a x ≡ (p x || q x)) → filter (λ x. not (a x)) xs ≡ filter (λ x. not (q x)) (filter (λ x. not (p x)) xs)
filter-both a p q [] h = refl
filter-both {X} a p q (x ∷ xs) h = step (filter-both a p q xs h) (p x) (h x)
  where
    here : List X
    here = filter (λ x. not (a x)) xs

    there : List X
    there = filter (λ x. not (p x)) xs

    step : here ≡ filter (λ x. not (q x)) there → (c : Bool) → a x ≡ (c || q x) → cond (not (a x)) (x ∷ here) here ≡ filter (λ x. not (q x)) (cond (not c) (x ∷ there) there)
    step more true e = ap (λ v. cond (not v) (x ∷ here) here) e ∙ more
    step more false e = ap (λ v. cond (not v) (x ∷ here) here) e ∙ ap (λ zs. cond (not (q x)) (x ∷ zs) zs) more

-- two powers together imply a clause where one of them does
either-implies : (P Q : List (List ℕ)) (c : List ℕ) → implies (P ++ Q) (c ∷ []) ≡ (implies P (c ∷ []) || implies Q (c ∷ []))
either-implies P Q c =
    same_tests (implies (P ++ Q) (c ∷ [])) (implies P (c ∷ []) || implies Q (c ∷ []))
    (λ t. let r = Implies-clause (P ++ Q) c (implies-Implies (P ++ Q) (c ∷ []) t) in
    elim (In-append_cases r.0 P Q r.1.0) [
      | inl i ↦ or_left (implies P (c ∷ [])) (implies Q (c ∷ [])) (Implies-implies P (c ∷ []) (clause-Implies P r.0 c i r.1.1))
      | inr i ↦ or_right (implies P (c ∷ [])) (implies Q (c ∷ [])) (Implies-implies Q (c ∷ []) (clause-Implies Q r.0 c i r.1.1))
    ])
    (λ t. elim (or_cases (implies P (c ∷ [])) (implies Q (c ∷ [])) t) [
      | inl i ↦ let r = Implies-clause P c (implies-Implies P (c ∷ []) i) in Implies-implies (P ++ Q) (c ∷ []) (clause-Implies (P ++ Q) r.0 c (In-append_left r.0 P Q r.1.0) r.1.1)
      | inr i ↦ let r = Implies-clause Q c (implies-Implies Q (c ∷ []) i) in Implies-implies (P ++ Q) (c ∷ []) (clause-Implies (P ++ Q) r.0 c (In-append_right r.0 P Q r.1.0) r.1.1)
    ])

without-append : (A P Q : List (List ℕ)) → without A (P ++ Q) ≡ without (without A P) Q
unfolding without
without-append A P Q = filter-both (λ c. implies (P ++ Q) (c ∷ [])) (λ c. implies P (c ∷ [])) (λ c. implies Q (c ∷ [])) A (either-implies P Q)

nothing-implies : (c : List ℕ) → implies [] (c ∷ []) ≡ false
nothing-implies c =
    elim (cases_Bool (implies [] (c ∷ []))) [
      | inl t ↦ absurd (Implies-clause [] c (implies-Implies [] (c ∷ []) t)).1.0
      | inr f ↦ f
    ]

-- beyond no privilege all is left
pub without-nothing : (A : List (List ℕ)) → without A [] ≡ A
unfolding without
without-nothing [] = refl
without-nothing (c ∷ A) =
    ap (λ b. cond (not b) (c ∷ without A []) (without A [])) (nothing-implies c) ∙ ap (λ B. c ∷ B) (without-nothing A)

-- beyond the privileges of one more
pub beyond-more : {X : Type 0} (of : X → List Priv) (A left next : List (List ℕ)) (xs : List X) (i : ℕ) (x : X) → i < length xs → x ≡ get_or xs i x
    → left ≡ without A (clauses_of (flat_map of (take i xs))) → next ≡ without left (clauses_of (of x)) → next ≡ without A (clauses_of (flat_map of (take (i + 1) xs)))
beyond-more {X} of A left next xs i x within is so_far here =
    let front : List (List ℕ) = clauses_of (flat_map of (take i xs)) in
    let more : take (i + 1) xs ≡ take i xs ++ x ∷ [] = take_more xs i x within ∙ ap (λ y. take i xs ++ y ∷ []) (sym is) in
    let last : flat_map of (take (i + 1) xs) ≡ flat_map of (take i xs) ++ of x =
    ap (flat_map of) more ∙ flat_map-append of (take i xs) (x ∷ []) ∙ ap (λ ys. flat_map of (take i xs) ++ ys) (append-nil (of x))
    in
    let all : clauses_of (flat_map of (take (i + 1) xs)) ≡ front ++ clauses_of (of x) =
    ap clauses_of last ∙ flat_map-append (λ (power : Priv). power.power) (flat_map of (take i xs)) (of x)
    in
    here ∙ ap (λ B. without B (clauses_of (of x))) so_far ∙ sym (without-append A front (clauses_of (of x))) ∙ ap (without A) (sym all)

-- ---- the privileges in arguments

pub powers-fixed : (value : Plain) → clauses_of (power_in (Fixed value)) ≡ clauses_of (power_of (Fixed value))
powers-fixed value =
    ap (λ singles. clauses_of (flat_map power_of singles)) (singles-fixed value) ∙ ap clauses_of (append-nil (power_of (Fixed value)))

pub powers-input : (place : ℕ) → clauses_of (power_in (Input place)) ≡ []
powers-input place = ap (λ singles. clauses_of (flat_map power_of singles)) (singles-input place)

powers-within : (args : List Arg) → flat_map power_of (flat_map (λ (s : List Arg). s) (map singles args)) ≡ flat_map power_in args
powers-within [] = refl
powers-within (arg ∷ args) =
    flat_map-append power_of (singles arg) (flat_map (λ (s : List Arg). s) (map singles args)) ∙ ap (λ rest. power_in arg ++ rest) (powers-within args)

pub powers-items : (args : List Arg) → clauses_of (power_in (Items args)) ≡ clauses_of (flat_map power_in args)
powers-items args = ap (λ all. clauses_of (flat_map power_of all)) (singles-items args) ∙ ap clauses_of (powers-within args)

-- ---- what the code finds

-- a value that is no privilege
pub beyond-other : (A : List (List ℕ)) (value : Plain) → ((power : Priv) → value ≡ Power power → ⊥) → A ≡ without A (clauses_of (power_of (Fixed value)))
beyond-other A value other = sym (without-nothing A) ∙ ap (λ (powers : List Priv). without A (clauses_of powers)) (none value other)
  where
    none : (v : Plain) → ((power : Priv) → v ≡ Power power → ⊥) → [] ≡ power_of (Fixed v)
    none (Power power) h = absurd (h power refl)
    none v h = refl

pub beyond-input : (A : List (List ℕ)) (arg : Arg) (place : ℕ) → arg ≡ Input place → A ≡ without A (clauses_of (power_in arg))
beyond-input A arg place is = sym (without-nothing A) ∙ ap (without A) (sym (powers-input place)) ∙ ap (λ (a : Arg). without A (clauses_of (power_in a))) (sym is)

pub beyond-items : (A : List (List ℕ)) (arg : Arg) (args items : List Arg) → arg ≡ Items args → items ≡ args → without A (clauses_of (flat_map power_in items)) ≡ without A (clauses_of (power_in arg))
beyond-items A arg args items is same =
    ap (λ (xs : List Arg). without A (clauses_of (flat_map power_in xs))) same ∙ ap (without A) (sym (powers-items args)) ∙ ap (λ (a : Arg). without A (clauses_of (power_in a))) (sym is)

pub answers-may : (policy : PolicyParts) (input channel : FileEntry) (plain : Bool) → plain ≡ flows input.label channel.label → plain ≡ true → May ≡ may_flow policy input channel
unfolding may_flow
answers-may policy input channel plain is t =
    sym (ap (λ b. cond b May (cond (flows_with (together (powers_of policy)) input.label channel.label) OnlyByPrivilege Never)) (sym is ∙ t))

-- what else may flow
pub answers-else : (policy : PolicyParts) (input channel : FileEntry) (plain all : Bool) → plain ≡ flows input.label channel.label → plain ≡ false
    → all ≡ flows_with (together (powers_of policy)) input.label channel.label → cond all OnlyByPrivilege Never ≡ may_flow policy input channel
unfolding may_flow
answers-else policy input channel plain all is f with_all =
    ap (λ b. cond b OnlyByPrivilege Never) with_all
    ∙ sym (ap (λ b. cond b May (cond (flows_with (together (powers_of policy)) input.label channel.label) OnlyByPrivilege Never)) (sym is ∙ f))

-- one more row
pub rows-more : {X Y : Type 0} (f : X → Y) (xs ys : List X) (i : ℕ) (x : X) (rows next : List Y) (row : Y) → xs ≡ ys → i < length xs → x ≡ get_or xs i x
    → rows ≡ map f (take i ys) → row ≡ f x → next ≡ rows ++ row ∷ [] → next ≡ map f (take (i + 1) ys)
rows-more {X} {Y} f xs ys i x rows next row same within is so_far here pushed =
    let more : map f (take (i + 1) xs) ≡ map f (take i xs) ++ f x ∷ [] =
    ap (map f) (take_more xs i x within) ∙ map-append f (take i xs) (get_or xs i x ∷ []) ∙ ap (λ y. map f (take i xs) ++ f y ∷ []) (sym is)
    in
    let there : map f (take (i + 1) ys) ≡ map f (take i ys) ++ f x ∷ [] = subst (λ (zs : List X). map f (take (i + 1) zs) ≡ map f (take i zs) ++ f x ∷ []) same more in
    pushed ∙ ap (λ (r : List Y). r ++ row ∷ []) so_far ∙ ap (λ (y : Y). map f (take i ys) ++ y ∷ []) here ∙ sym there
