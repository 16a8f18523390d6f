-- What an observer sees of acts whose values it sees already: of releases, of exposures, and of values that are sealed.
use Rattle.std.specs.Prelude.{Bool, true, false, not, ◌&&◌, if◌then◌else◌}
use Rattle.lio_labels.specs.declared.label.Label.{Label}
use Rattle.lio_labels.specs.Flow.{flows}
use Rattle.lio_values.specs.declared.value.Content.{Content}
use Rattle.lio_values.specs.declared.value.Content.TheVariants.{Kept, Faulted, Hidden}
use Rattle.lio_values.specs.declared.act.Act.{Act}
use Rattle.lio_values.specs.declared.act.Act.TheVariants as act
use Rattle.lio_values.specs.declared.act.Reply.{Reply}
use Rattle.lio_values.specs.declared.act.Reply.TheVariants.{Done}

abbrev pub is_hidden : Content → Bool
is_hidden Hidden = true
is_hidden (Kept plain) = false
is_hidden (Faulted fault) = false

-- whether a release or an exposure that is carried out brings a hidden content to a label below the observer's
abbrev pub lacks_content : Label → Act → Reply → Bool
lacks_content observer (act.Release source target power content) Done = is_hidden content && flows target observer
lacks_content observer (act.Expose source target power content) Done = is_hidden content && flows target observer
lacks_content observer asked reply = false

-- a release or an exposure with another content
abbrev pub with_content : Act → Content → Act
with_content (act.Release source target power hidden) content = act.Release source target power content
with_content (act.Expose source target power hidden) content = act.Expose source target power content
with_content asked content = asked

-- whether an act releases or exposes a content to a label that doesn't flow to the observer's
abbrev pub releases_above : Label → Act → Bool
releases_above observer (act.Release source target power content) = not (flows target observer)
releases_above observer (act.Expose source target power content) = not (flows target observer)
releases_above observer asked = false

-- an act as the observer sees it, if it sees the values already: a content that is released or exposed to a label that doesn't flow to the observer's is hidden
abbrev pub shown_act : Label → Act → Act
shown_act observer asked = if releases_above observer asked then with_content asked Hidden else asked

-- whether an act seals a value under a label that doesn't flow to the observer's, so that the value has to be hidden
abbrev pub hides : Label → Act → Bool
hides observer (act.Seal label) = not (flows label observer)
hides observer asked = false
