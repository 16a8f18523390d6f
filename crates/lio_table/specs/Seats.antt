-- What a seat keeps of the nodes that it holds.
use Rattle.std.specs.Prelude.{◌≡◌, ℕ, ◌<◌, ◌≤◌, true, List, length, Option, Some, is_some}
use mathlib.Core.Option.{some}
use lib.ListN.{get_elem?}
use Rattle.lio_task.specs.declared.config.Holder.{Holder}
use Rattle.lio_table.specs.declared.view.Beginning.{Beginning}
use Rattle.lio_table.specs.declared.view.Claimed.{Claimed}
use Rattle.lio_table.specs.Views.{HasLog}

-- The slot of a node that a seat holds is out with it: it has the node's holder, at which those wait who were found at the claim.
pub record IsOut (first : Beginning) (node : Claimed) (slot : ℕ × Option Holder) : Type 0 where
  pub within : node.number < length first.holders
  pub number : slot.0 ≡ node.number
  pub full : is_some slot.1 ≡ true
  pub has_log : (holder : Holder) → slot.1 ≡ Some holder → HasLog first node.number node.log holder
  pub waiters : (holder : Holder) → slot.1 ≡ Some holder → holder.node.waiters ≡ node.found

-- The slots that are out with a seat are those of its nodes, in the same order.
pub record AreOut (first : Beginning) (nodes : List Claimed) (slots : List (ℕ × Option Holder)) : Type 0 where
  pub size : length slots ≡ length nodes
  pub each : (k : ℕ) (node : Claimed) (slot : ℕ × Option Holder) → get_elem? nodes k ≡ some node → get_elem? slots k ≡ some slot → IsOut first node slot

-- There are two nodes at most, with these numbers.
pub record HaveNumbers (first second : ℕ) (nodes : List Claimed) : Type 0 where
  pub few : length nodes ≤ 2
  pub last : (node : Claimed) → get_elem? nodes 0 ≡ some node → node.number ≡ first
  pub other : (node : Claimed) → get_elem? nodes 1 ≡ some node → (node.number ≡ second) × (first ≡ second → ⊥)
