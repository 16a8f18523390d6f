-- Releases by some privileges.
use Rattle.std.specs.Prelude.{◌≡◌, IsTrue, List}
use Rattle.lio_labels.specs.declared.privilege.Priv.{Priv}
use Rattle.lio_labels.specs.Privilege.{flows_with}
use Rattle.lio_values.specs.declared.act.Act.{Act}
use Rattle.lio_values.specs.declared.act.Act.TheVariants.{Step, Seal, Raise, Lower, Release, Expose, NewRef, NewVar, Fork, Spawn, Read, Write, Take, Put, Wait, Send, Ended}
use Rattle.lio_values.specs.declared.act.Reply.TheVariants.{Done}
use Rattle.lio_values.specs.declared.entry.Entry.{Entry}
use Rattle.lio_calculus.specs.Powers.{ReleasesBy}

-- the source of a release or an exposure flows to its target with its privilege
abbrev pub FlowsByPower : Act → Type 0
FlowsByPower (Release source target power content) = IsTrue (flows_with power source target)
FlowsByPower (Expose source target power content) = IsTrue (flows_with power source target)
FlowsByPower Step = Unit {0}
FlowsByPower (Seal label) = Unit {0}
FlowsByPower (Raise op label) = Unit {0}
FlowsByPower (Lower label) = Unit {0}
FlowsByPower (NewRef label value) = Unit {0}
FlowsByPower (NewVar label value) = Unit {0}
FlowsByPower (Fork birth) = Unit {0}
FlowsByPower (Spawn birth) = Unit {0}
FlowsByPower Read = Unit {0}
FlowsByPower (Write value) = Unit {0}
FlowsByPower Take = Unit {0}
FlowsByPower (Put value) = Unit {0}
FlowsByPower Wait = Unit {0}
FlowsByPower (Send text) = Unit {0}
FlowsByPower (Ended content) = Unit {0}

-- an entry shows no release and no exposure but by one of these privileges, and none that is carried out but where the source flows to the target with it
pub record IsReleasedBy (powers : List Priv) (entry : Entry) : Type 0 where
  pub given : ReleasesBy powers entry.act
  pub flows : entry.reply ≡ Done → FlowsByPower entry.act
