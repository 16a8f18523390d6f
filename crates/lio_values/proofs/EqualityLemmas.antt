-- `==` of values, faults and entries is equality.
use Rattle.std.proofs.Common.{refl}
use Rattle.lio_labels.specs.Equality.{same_formula, same_label, same_privilege}
use Rattle.lio_values.specs.contracts.act.Op as op_type
use Rattle.lio_values.specs.contracts.act.Act as act_type
use Rattle.lio_values.specs.contracts.act.Reply as reply_type
use Rattle.lio_values.specs.contracts.fault.FaultKind as kind_type
use Rattle.lio_values.specs.contracts.value.Plain as plain_type
use Rattle.lio_values.specs.contracts.value.Content as content_type
use Rattle.lio_values.specs.contracts.value.Value as value_type
use Rattle.lio_values.specs.contracts.value.HandlePartialEq.TheImpl as of_handles
use Rattle.lio_values.specs.contracts.value.PlainPartialEq.TheImpl as of_plains
use Rattle.lio_values.specs.contracts.value.ContentPartialEq.TheImpl as of_contents
use Rattle.lio_values.specs.contracts.value.ValuePartialEq.TheImpl as of_values
use Rattle.lio_values.specs.contracts.fault.FaultKindPartialEq.TheImpl as of_kinds
use Rattle.lio_values.specs.contracts.fault.FaultPartialEq.TheImpl as of_faults
use Rattle.lio_values.specs.contracts.act.BirthPartialEq.TheImpl as of_births
use Rattle.lio_values.specs.contracts.act.ActPartialEq.TheImpl as of_acts
use Rattle.lio_values.specs.contracts.act.ReplyPartialEq.TheImpl as of_replies
use Rattle.lio_values.specs.contracts.entry.EntryPartialEq.TheImpl as of_entries
use Rattle.lio_values.specs.Equality.{IsEquality}
use Rattle.lio_values.specs.SameForest.{same_forest, same_forest-is, same_forest-itself}
use Rattle.lio_values.proofs.DerivedEquality.{IsExact, exact_equality, exact_point, exact_last, exact_more, exact_fields, exact_lists, exact_options, exact_numbers, exact_wholes, exact_flags, exact_bare, exact_variants}

formulas : IsExact same_formula
formulas = exact_lists (exact_lists exact_numbers)

labels : IsExact same_label
labels = exact_fields (exact_more formulas formulas) (λ l. (l.secrecy, l.integrity)) (λ f. record { secrecy = f.0; integrity = f.1 }) (λ l. refl)

privileges : IsExact same_privilege
privileges = exact_fields formulas (λ p. p.power) (λ f. record { power = f }) (λ p. refl)

handles : IsExact (of_handles.ghosts).eq
handles = exact_fields (exact_more exact_numbers labels) (λ h. (h.number, h.label)) (λ f. record { number = f.0; label = f.1 }) (λ h. refl)

forests : IsExact same_forest
forests = record { same = same_forest-is; itself = same_forest-itself }

plains : IsExact (of_plains.ghosts).eq
plains = exact_variants plain_type.enum _ (
  exact_point,
  (
    exact_last exact_flags,
    (
      exact_last exact_wholes,
      (
        exact_last (exact_lists exact_numbers),
        (
          exact_last labels,
          (
            exact_last privileges,
            (exact_last handles, (exact_last handles, (exact_last handles, (exact_last handles, (exact_last forests, tt))))),
          ),
        ),
      ),
    ),
  ),
)

kinds : IsExact (of_kinds.ghosts).eq
kinds = exact_variants kind_type.enum _ (
  exact_more labels (exact_last labels),
  (
    exact_more labels (exact_last labels),
    (
      exact_more labels (exact_last labels),
      (
        exact_more privileges (exact_more labels (exact_last labels)),
        (
          exact_point,
          (
            exact_point,
            (
              exact_point,
              (
                exact_point,
                (
                  exact_point,
                  (
                    exact_more exact_numbers (exact_last exact_numbers),
                    (
                      exact_more exact_numbers (exact_last exact_numbers),
                      (exact_point, (exact_more labels (exact_last labels), (exact_last plains, tt))),
                    ),
                  ),
                ),
              ),
            ),
          ),
        ),
      ),
    ),
  ),
)

faults : IsExact (of_faults.ghosts).eq
faults = exact_fields (exact_more kinds labels) (λ f. (f.kind, f.at)) (λ f. record { kind = f.0; at = f.1 }) (λ f. refl)

contents : IsExact (of_contents.ghosts).eq
contents = exact_variants content_type.enum _ (exact_last plains, (exact_last faults, (exact_point, tt)))

pub values : IsExact (of_values.ghosts).eq
values = exact_variants value_type.enum _ (exact_last plains, (exact_more labels (exact_last contents), tt))

births : IsExact (of_births.ghosts).eq
births = exact_fields
    (exact_more exact_numbers (exact_more (exact_lists values) (exact_more labels (exact_more labels (exact_more exact_numbers (exact_more exact_numbers exact_numbers))))))
    (λ b. (b.proc_at, (b.args, (b.result, (b.clearance, (b.turns, (b.first, b.cells)))))))
    (λ f. record { proc_at = f.0; args = f.1.0; result = f.1.1.0; clearance = f.1.1.1.0; turns = f.1.1.1.1.0; first = f.1.1.1.1.1.0; cells = f.1.1.1.1.1.1 })
    (λ b. refl)

acts : IsExact (of_acts.ghosts).eq
acts = exact_variants act_type.enum _ (
  exact_point,
  (
    exact_last labels,
    (
      exact_more (exact_bare op_type.the_type tt) (exact_last labels),
      (
        exact_last labels,
        (
          exact_more labels (exact_more labels (exact_more privileges (exact_last contents))),
          (
            exact_more labels (exact_more labels (exact_more privileges (exact_last contents))),
            (
              exact_more labels (exact_last values),
              (
                exact_more labels (exact_last (exact_options values)),
                (
                  exact_last births,
                  (
                    exact_last births,
                    (
                      exact_point,
                      (
                        exact_last values,
                        (
                          exact_point,
                          (
                            exact_last values,
                            (
                              exact_point,
                              (exact_last (exact_lists exact_numbers), (exact_last contents, tt)),
                            ),
                          ),
                        ),
                      ),
                    ),
                  ),
                ),
              ),
            ),
          ),
        ),
      ),
    ),
  ),
)

replies : IsExact (of_replies.ghosts).eq
replies = exact_variants reply_type.enum _ (exact_point, (exact_last values, (exact_last contents, (exact_last faults, tt))))

entries : IsExact (of_entries.ghosts).eq
entries = exact_fields
    (exact_more exact_numbers (exact_more exact_numbers (exact_more (exact_options exact_numbers) (exact_more labels (exact_more acts replies)))))
    (λ e. (e.ticket, (e.actor, (e.target, (e.at, (e.act, e.reply))))))
    (λ f. record { ticket = f.0; actor = f.1.0; target = f.1.1.0; at = f.1.1.1.0; act = f.1.1.1.1.0; reply = f.1.1.1.1.1 })
    (λ e. refl)

pub handle_equality : IsEquality (of_handles.ghosts).eq
handle_equality = exact_equality handles

pub plain_equality : IsEquality (of_plains.ghosts).eq
plain_equality = exact_equality plains

pub content_equality : IsEquality (of_contents.ghosts).eq
content_equality = exact_equality contents

pub value_equality : IsEquality (of_values.ghosts).eq
value_equality = exact_equality values

pub kind_equality : IsEquality (of_kinds.ghosts).eq
kind_equality = exact_equality kinds

pub fault_equality : IsEquality (of_faults.ghosts).eq
fault_equality = exact_equality faults

pub birth_equality : IsEquality (of_births.ghosts).eq
birth_equality = exact_equality births

pub act_equality : IsEquality (of_acts.ghosts).eq
act_equality = exact_equality acts

pub reply_equality : IsEquality (of_replies.ghosts).eq
reply_equality = exact_equality replies

pub entry_equality : IsEquality (of_entries.ghosts).eq
entry_equality = exact_equality entries
