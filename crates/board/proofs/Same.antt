-- Two values are one if their fields are.
use mathlib.Core.Path.{◌≡◌, sym}
use mathlib.Core.List.{List, map}
use Prim.Native.Nat.{ℕ}
use lib.ListN.{set}
use lib.Seq.{map-set_same}
use Rattle.rules.specs.Board.{Place, free_place}
use Rattle.rules.proofs.Orders.{pl}
use Rattle.board.specs.declared.Board.{Board}

pub record Same (a b : Board) : Type 0 where
  pub numbers : a.numbers ≡ b.numbers
  pub shares : a.shares ≡ b.shares
  pub deficits : a.deficits ≡ b.deficits
  pub starts : a.starts ≡ b.starts
  pub counts : a.counts ≡ b.counts
  pub ready : a.ready ≡ b.ready
  pub next : a.next ≡ b.next
  pub heads : a.heads ≡ b.heads
  pub tails : a.tails ≡ b.tails
  pub held : a.held ≡ b.held
  pub largest : a.largest ≡ b.largest
  pub clock : a.clock ≡ b.clock
  pub active : a.active ≡ b.active
  pub pending : a.pending ≡ b.pending
  pub slot : a.slot ≡ b.slot
  pub left : a.left.0 ≡ b.left.0

pub same : {a b : Board} → Same a b → a ≡ b
same s = λ j. record {
  numbers = s.numbers j;
  shares = s.shares j;
  deficits = s.deficits j;
  starts = s.starts j;
  counts = s.counts j;
  ready = s.ready j;
  next = s.next j;
  heads = s.heads j;
  tails = s.tails j;
  held = s.held j;
  largest = s.largest j;
  clock = s.clock j;
  active = s.active j;
  pending = s.pending j;
  slot = s.slot j;
  left = record { 0 = s.left j };
}

-- a field of the places that a change at one place keeps
pub kept : (f : Place → ℕ) (l : List Place) (p : ℕ) (y : Place) → f y ≡ f (pl l p) → map f l ≡ map f (set l p y)
kept f l p y e = sym (map-set_same f l p y free_place e)
