-- OPENING, RENAMING, CLOSING (document 01, under that heading).
use Rattle.std.specs.Prelude.{Bool, cond, ◌&&◌, ◌||◌, List, [], ◌∷◌, ℕ, ◌+◌, leb, ltb, eqb, set}
use Rattle.base.specs.Tests.{least}
use Rattle.operands.specs.declared.Opening as struct
use Rattle.rules.specs.Board.{Place, free_place, out, Board, at, waits, block_class, free_share}
use Rattle.rules.specs.Choice.{done, Turn, Check, check, guarded, where_is, number_outside, none_has, some_has, upd}
use Rattle.rules.specs.Choice.{go_on, is_none, least_ready}

-- what an opening is given: the block's number and its share
pub record Opening : Type 0 where
  pub number : ℕ
  pub share : ℕ

abbrev pub opening : (number share : ℕ) → Opening
opening number share = record { number = number; share = share }

-- the opening that the code's struct means
abbrev pub meant : struct.Opening → Opening
meant o = record { number = o.number; share = o.share }

-- Open takes the lowest free place and the share, with deficit 0, start 0 and an empty lane.
abbrev pub opened : Opening → Place
opened o = record { number = o.number; share = o.share; start = 0; lane = []; deficit = 0; stand = out }

unfoldable pub free_at : Board → ℕ
free_at b = least (λ p. eqb (at b p).share 0) 64

-- Share: 1 to 65,536.
abbrev pub share_outside : (share : ℕ) → Bool
share_outside share = eqb share 0 || ltb 65536 share

-- all 64 places are taken
abbrev pub all_taken : Board → Bool
all_taken b = leb 64 (free_at b)

-- the share exceeds the free share
abbrev pub over_free : Board → (share : ℕ) → Bool
over_free b share = ltb (free_share b) share

abbrev pub open_checks : Board → Opening → List Check
open_checks b o =
    check 4 (number_outside o.number || share_outside o.share)
    ∷ check 5 (some_has b o.number)
    ∷ check 7 (all_taken b)
    ∷ check 8 (over_free b o.share)
    ∷ []

unfoldable pub open_block : Board → Opening → Turn
open_block b o = guarded b (open_checks b o) (record { out = done; next = go_on b (free_at b) (opened o) })

-- Rename changes the number only. Lane, share, order, deficit and an open slot stay.
abbrev pub renamed : (new : ℕ) → Place → Place
renamed new x =
    record { number = new; share = x.share; start = x.start; lane = x.lane; deficit = x.deficit; stand = x.stand }

abbrev pub rename_checks : Board → (old new : ℕ) → List Check
rename_checks b old new = check 4 (number_outside new) ∷ check 6 (none_has b old) ∷ check 5 (some_has b new) ∷ []

unfoldable pub rename_block : Board → (old new : ℕ) → Turn
rename_block b old new =
    let p = where_is b old in
    guarded b (rename_checks b old new) (record { out = done; next = go_on b p (renamed new (at b p)) })

-- No block waits: no slot is open, and none is in an order.
unfoldable pub quiet : Board → Bool
quiet b = is_none b.slot && is_none (least_ready b.places)

-- Close needs an empty lane. The place is free at once. The share is held with its class's, unless none waits.
-- Held shares of one class all go at the same clock, the next start of the class above the present one, so one number a
-- class is enough.
unfoldable pub closed : Board → (p : ℕ) → Board
closed b p =
    record {
      largest = b.largest;
      clock = b.clock;
      places = set b.places p free_place;
      orders = b.orders;
      slot = b.slot;
      held =
          cond (quiet b) b.held
          (upd b.held (block_class (at b p)) (b.held (block_class (at b p)) + (at b p).share));
    }

abbrev pub close_checks : Board → (block : ℕ) → List Check
close_checks b block = check 6 (none_has b block) ∷ check 10 (waits (at b (where_is b block))) ∷ []

unfoldable pub close_block : Board → (block : ℕ) → Turn
close_block b block = guarded b (close_checks b block) (record { out = done; next = closed b (where_is b block) })
