-- Runs that are computed: the worked log, the hold, the fraction of a credit, and how tight the bound is. They also show that no promise is
-- empty: for the premises of each theorem a run that meets them.
use mathlib.Core.Path.{◌≡◌, refl}
use mathlib.Core.Bool.{true, false, not}
use mathlib.Core.Logic.{inr}
use mathlib.Core.Option.{none, some}
use mathlib.Core.List.{List, [], ◌∷◌, ◌++◌}
use Prim.Native.Nat.{ℕ, ◌+◌, ◌-◌, ◌^◌, ◌≤◌}
use native.Mathlib.Omega.{arith}
use lib.ListN.{take, set, replicate}
use Rattle.base.specs.Sums.{sum, below}
use Rattle.base.specs.Tests.{least, all_below}
use Rattle.units.specs.Classes.{Start, class_of, next_start}
use Rattle.units.specs.Credit.{framing, charged, largest_charge, credit_of}
use Rattle.lanes.specs.Lanes.{ring_entry, ring_on, lane_depth, lane_first}
use Rattle.rules.specs.Board.{Record, bytes_charged, queued, Board, at, entry, onward, some_wait, any_due, used_share, fresh, pending, free_place}
use Rattle.rules.specs.Choice.{where_is, upd, taken_in, take_record, release, least_ready, settle, ended, send_from, send, lowest, begin, serve_by, serve, find}
use Rattle.rules.specs.Choice.{open_at}
use Rattle.rules.specs.Blocks.{opening, free_at, open_block, rename_block, quiet, closed, close_block}
use Rattle.rules.specs.Calls.{Single, open!, rename!, close!, record!, serve!, step, Answer, gives, takes, sends}
use Rattle.rules.specs.Runs.{play, answer, bytes_in, slots_in, holds, held_of, Unsent, NotSpent, ComesToFront, into_empty, serves_in, class_at, still_held}
use Rattle.rules.specs.Runs.{story, begins}
use Rattle.rules.specs.Promises.{WaitsAt, bound}
use Rattle.rules.specs.Spoilt.{numbers_apart, lengths_in, spoilt, count, all_places, orders_listed, never_falling, unspoilt}

-- ---- words of the examples

abbrev rec : ℕ → ℕ → Record
rec n l = record { number = n; bytes = l }

abbrev took : Answer
took = takes (record { code = 0 })

abbrev out : ℕ → ℕ → ℕ → ℕ → Answer
out block number bytes clock = sends (record { block = block; number = number; bytes = bytes; clock = clock })

abbrev opens : (number share : ℕ) → Single
opens number share = open! (opening number share)

unfoldable pub answers : Board → List Single → List Answer
answers b [] = []
answers b (x ∷ xs) = answer b x ∷ answers (step b x).next xs

-- ---- the runs

-- the worked log of document 01, with L 100
unfoldable pub worked : List Single
worked =
    opens 11 32768 ∷ opens 12 24576 ∷ record! 11 (rec 1 100) ∷ record! 11 (rec 2 60) ∷ record! 12 (rec 3 100) ∷ record! 12 (rec 4 100) ∷ record! 12 (rec 5 100)
    ∷ serve! ∷ serve! ∷ serve! ∷ serve! ∷ serve! ∷ serve! ∷ []

-- the hold: eight blocks of class 3 wait at clock 8; four are emptied and closed at 12
unfoldable pub emptied : List Single
emptied = opens 1 8192 ∷ opens 2 8192 ∷ opens 3 8192 ∷ opens 4 8192 ∷ opens 5 8192 ∷ opens 6 8192 ∷ opens 7 8192 ∷ opens 8 8192
    ∷ record! 1 (rec 1 100) ∷ record! 2 (rec 1 100) ∷ record! 3 (rec 1 100) ∷ record! 4 (rec 1 100) ∷ record! 5 (rec 1 100) ∷ record! 6 (rec 1 100) ∷ record! 7
    (rec 1 100) ∷ record! 8 (rec 1 100)
    ∷ record! 5 (rec 2 100) ∷ record! 6 (rec 2 100) ∷ record! 7 (rec 2 100) ∷ record! 8 (rec 2 100)
    ∷ serve! ∷ serve! ∷ serve! ∷ serve! ∷ close! 1 ∷ close! 2 ∷ close! 3 ∷ close! 4 ∷ []

unfoldable pub then_opened : List Single
then_opened = opens 9 32768 ∷ serve! ∷ opens 9 32768 ∷ serve! ∷ serve! ∷ serve! ∷ opens 9 32768 ∷ []

-- the fraction of a credit: share 65,535 with L 64 has 127 bytes and 65,408 parts
unfoldable pub fraction : List Single
fraction = opens 7 65535 ∷ record! 7 (rec 1 64) ∷ record! 7 (rec 2 63) ∷ record! 7 (rec 3 64) ∷ record! 7 (rec 4 64) ∷ serve! ∷ serve! ∷ serve! ∷ serve! ∷ []

-- how tight the bound is, with L 64: four blocks of class 4 that have kept nearly 64 bytes of deficit each; two have had their slots at
-- 32 and 33 when a record comes for a block of class 1
unfoldable pub filled : ℕ → List Single
filled n = record! n (rec 1 64) ∷ record! n (rec 2 64) ∷ record! n (rec 3 64) ∷ record! n (rec 4 63) ∷ []

unfoldable pub tight : List Single
tight = opens 9 32768 ∷ opens 1 8191 ∷ opens 2 8191 ∷ opens 3 8191 ∷ opens 4 8191 ∷ (filled 1 ++ (filled 2 ++ (filled 3 ++ (filled 4
    ++ (serve! ∷ serve! ∷ serve! ∷ serve! ∷ serve! ∷ serve! ∷ serve! ∷ serve! ∷ serve! ∷ serve! ∷ [])))))

unfoldable pub waiting : List Single
waiting = serve! ∷ serve! ∷ serve! ∷ serve! ∷ serve! ∷ serve! ∷ []

abbrev comes : Single
comes = record! 9 (rec 5 64)

abbrev before : Board
before = play (fresh 64) tight

abbrev after : Board
after = (step (play (fresh 64) tight) (record! 9 (rec 5 64))).next

-- block 11 of the worked log, at clock 3, before its slot at 4
abbrev at_three : Board
at_three = play (fresh 100) (take 8 worked)

-- a block of class 1 renamed while it is queued, while its slot is open, and twice
unfoldable pub renames : List Single
renames =
    record! 1 (rec 1 40) ∷ record! 1 (rec 2 20) ∷ record! 1 (rec 3 64) ∷ rename! 1 2 ∷ serve! ∷ rename! 2 3 ∷ serve! ∷ rename! 3 4 ∷ record! 4
    (rec 4 9) ∷ serve! ∷ []

-- a board whose clock is late: one block of class 16 waits, with ready time 2^62
abbrev late : Board
late =
    record {
      largest = 64;
      clock = 2 ^ 62 - 1;
      places = set (replicate 64 free_place) 0 (record { number = 5; share = 1; start = 0; lane = rec 1 64 ∷ []; deficit = 0; stand = queued (2 ^ 62) });
      orders = upd (λ k. []) 16 (0 ∷ []);
      slot = none;
      held = λ j. 0;
    }

-- ---- what they come to

pub record Computed : Type 0 where
  pub worked_log : answers (fresh 100) worked ≡ gives 0 ∷ gives 0 ∷ took ∷ took ∷ took ∷ took ∷ took
      ∷ out 11 1 100 2 ∷ out 11 2 60 4 ∷ out 12 3 100 5 ∷ out 12 4 100 8 ∷ out 12 5 100 8 ∷ gives 1 ∷ []
  pub worked_clock : (play (fresh 100) worked).clock ≡ 9
  pub worked_bytes : bytes_in (fresh 100) worked ≡ 460
  -- the open at 12 is refused, and at 13; at 16 it is granted
  pub holds_four : ((play (fresh 100) emptied).clock ≡ 12) × ((play (fresh 100) emptied).held 3 ≡ 32768)
      × (sum (held_of 3) (holds [] (fresh 100) emptied) ≡ 32768)
  pub hold_answers : answers (play (fresh 100) emptied) then_opened
      ≡ gives 8 ∷ out 5 1 100 12 ∷ gives 8 ∷ out 6 1 100 13 ∷ out 7 1 100 14 ∷ out 8 1 100 15 ∷ gives 0 ∷ []
  -- a lane that empties leaves no deficit
  pub emptied_deficit : (at (play (fresh 64) (opens 1 32768 ∷ record! 1 (rec 1 40) ∷ serve! ∷ [])) 0).deficit ≡ 0
  -- slot clocks 2 2 4 4: a dropped fraction gives 2 2 4 6
  pub fraction_clocks : answers (fresh 64) fraction ≡ gives 0 ∷ took ∷ took ∷ took ∷ took ∷ out 7 1 64 2 ∷ out 7 2 63 2 ∷ out 7 3 64 4 ∷ out 7 4 64 4 ∷ []
  -- while the record of class 1 waits, 382 of at most 573 bytes of others are sent
  pub tight_bytes : (bytes_in after waiting ≡ 382) × (bound 64 (class_at after 9) ≡ 573)
  pub tight_then : answers (play after waiting) (serve! ∷ []) ≡ out 9 5 64 36 ∷ []
  -- and the premises of the byte bound and of its count of serves hold of it
  pub tight_comes : ComesToFront before 9 comes
  pub tight_unsent : Unsent 9 after waiting
  pub tight_not_spent : NotSpent after waiting
  pub tight_serves : serves_in waiting ≡ 6
  -- block 11 waits at clock 3 when the clock goes to 4, and has one slot from 4 to 6
  pub reaches_four : WaitsAt 11 4 at_three serve!
  pub goes_past_six : 6 ≤ (play (step at_three serve!).next (serve! ∷ serve! ∷ [])).clock
  pub one_slot : slots_in 4 6 11 at_three (serve! ∷ serve! ∷ serve! ∷ []) ≡ 1
  pub found_eleven : find at_three 11 ≡ open_at 0
  -- none is pending at clock 3, and the least ready time is the next start of the lowest active class
  pub none_pending : (at_three.slot ≡ none) × (all_below 17 (λ k. not (pending at_three k)) ≡ true) × (least_ready at_three.places ≡ some 4)
  -- a block's story through three renames: each record leaves under the number of that moment, one still stands in the lane
  pub renamed_answers : answers (step (fresh 64) (opens 1 32768)).next renames
      ≡ took ∷ took ∷ took ∷ gives 0 ∷ out 2 1 40 2 ∷ gives 0 ∷ out 3 2 20 2 ∷ gives 0 ∷ took ∷ out 4 3 64 4 ∷ []
  pub renamed_story : story (begins 1) (step (fresh 64) (opens 1 32768)).next renames
      ≡ record { number = 4; taken = rec 1 40 ∷ rec 2 20 ∷ rec 3 64 ∷ rec 4 9 ∷ []; sent = rec 1 40 ∷ rec 2 20 ∷ rec 3 64 ∷ []; closed = false }
  -- the clock is used_share for the late board
  pub late_is_sound : spoilt late ≡ false
  pub late_answer : answer late serve! ≡ gives 11

pub computed : Computed
unfolding answers worked emptied then_opened fraction filled tight waiting renames story all_below numbers_apart lengths_in count all_places orders_listed
    never_falling unspoilt Start play bytes_in slots_in holds still_held Unsent NotSpent serves_in least next_start class_of framing charged largest_charge
    credit_of sum
    below bytes_charged ring_entry ring_on lane_depth lane_first entry onward some_wait any_due used_share fresh where_is upd taken_in take_record release
    least_ready
    settle
    ended
    send_from send lowest begin serve_by serve free_at open_block rename_block quiet closed close_block step
computed =
    record {
      worked_log = refl;
      worked_clock = refl;
      worked_bytes = refl;
      holds_four = (refl, refl, refl);
      hold_answers = refl;
      emptied_deficit = refl;
      fraction_clocks = refl;
      tight_bytes = (refl, refl);
      tight_then = refl;
      tight_comes = into_empty (rec 5 64) refl refl;
      tight_unsent = (refl, (refl, (refl, (refl, (refl, (refl, tt))))));
      tight_not_spent = (refl, (refl, (refl, (refl, (refl, (refl, tt))))));
      tight_serves = refl;
      reaches_four = record { start = (2, refl); early = omega arith; reached = omega arith; before = omega arith; after = inr (refl, omega arith) };
      goes_past_six = omega arith;
      one_slot = refl;
      found_eleven = refl;
      none_pending = (refl, refl, refl);
      renamed_answers = refl;
      renamed_story = refl;
      late_is_sound = refl;
      late_answer = refl;
    }
