-- What a claim and a give say of a seat's view.
use Rattle.std.specs.Prelude.{◌≡◌, ℕ, ◌^◌}
use Rattle.lio_calculus.specs.Step.{Configuration}
use Rattle.lio_task.specs.declared.config.Holder.{Holder}
use Rattle.lio_table.specs.declared.view.View.{View}
use Rattle.lio_table.specs.Views.{HasLog, HoldsNode, StandIn, rights}
use Rattle.lio_table.specs.Steps.{with_busy, with_given, with_node}
use Rattle.lio_table.specs.declared.claim.Claim.{Claim}
use Rattle.lio_table.specs.declared.claim.Claim.TheVariants.{Held, Busy}

-- A seat holds node n besides what it held: its holder has a log and stands for what it makes of the node's first cell, as do those of the other nodes
-- that the seat holds, in a sound configuration.
pub record HasClaimed (n : ℕ) (old new : View) : Type 0 where
  pub holder : Holder
  pub view : new ≡ with_node n holder old
  pub has_log : HasLog old.first n holder.node.log holder
  pub whole : Configuration
  pub stand : StandIn new whole

-- Node n was found taken, which is never told to a seat that has all tickets.
pub record WasTaken (n : ℕ) (old new : View) : Type 0 where
  pub view : new ≡ with_busy n old
  pub not_alone : rights old ≡ 2 ^ 62 → ⊥

-- what a claim says
abbrev pub ClaimSays : Claim → ℕ → View → View → Type 0
ClaimSays Held n old new = HasClaimed n old new
ClaimSays Busy n old new = WasTaken n old new

-- A node that the seat held was given back with its log, and those wait at it who were found at the claim.
pub record GiveSays (n : ℕ) (old new : View) : Type 0 where
  pub holds : HoldsNode old n
  pub view : new ≡ with_given holds.node holds.node.found old
