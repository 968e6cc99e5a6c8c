-- The pieces of a listing, one behind the other in a buffer. Assumes nothing.
use mathlib.Core.Path.{◌≡◌, refl, sym, ap, ap₂, subst, ◌∙◌}
use mathlib.Core.Bool.{true, false, true≢false}
use mathlib.Core.Logic.{◌⊎◌, inl, inr}
use mathlib.Core.List.{List, [], ◌∷◌, ◌++◌, append_assoc, append-nil}
use Prim.Native.Nat.{ℕ, ◌+◌, ◌-◌, ◌≤◌, ◌<◌}
use native.Mathlib.Omega.{arith}
use lib.ListN.{length, take, drop, length-append, length-drop}
use lib.Seq.{take_at, take-length, length-take-le, drop-drop}
use Rattle.lines.specs.Text.{Written, Line}
use Rattle.lines.proofs.Texts.{none, then, from_front}
use Rattle.listing_rules.specs.Listing.{listing_of}
use Rattle.fragments.proofs.Reading.{from_taken}
use Rattle.player.specs.declared.State.{State}
use Rattle.std.specs.Prelude.{Result, Ok, Err, IsOk}
use Rattle.numbers.specs.declared.refusal.Refusal.{Refusal}
use Rattle.numbers.proofs.Refusals.{refusal_not_done}
use Rattle.operands.specs.declared.Fed.{Fed}
use Rattle.player.specs.Feeding.{Piece, piece_in, before_first, held, rest_of, feed_code, FeedOf, CloseOf}
use Rattle.player.proofs.Feeding.{over_rest}
use Rattle.player.proofs.Ends.{before_first_rest}
use Rattle.c_face.specs.Listed.{Listed, Moved}

-- ---- One piece

-- what is done was not refused
pub fed_ok : (outcome : Result Fed Refusal) (s : State) → (piece_in outcome s).code ≡ 0 → IsOk outcome
fed_ok (Ok fed) s e = refl
fed_ok (Err refusal) s e = absurd (refusal_not_done refusal e)

module _ (s : State) (ids lens piece : List ℕ) (r : Piece) (ids' lens' piece' : List ℕ) (z : feed_code s ids lens ≡ 0) (room : 64 ≤ length piece) where
  pub moved_fed : (log : List ℕ) (taken : ℕ) → taken < length log → FeedOf s ids lens (take (length log - taken) (drop taken log)) piece r ids' lens' piece'
      → Moved s ids lens (drop taken log) piece r ids' lens' piece'
  moved_fed log taken some whole =
      let rest = drop taken log in
      let p = subst (λ (part : List ℕ). FeedOf s ids lens part piece r ids' lens' piece') (from_taken log taken) whole in
      let d = p.done (p.code ∙ z) in
      record {
        within = d.told.within;
        fits = d.told.fits;
        joined =
            ap (λ (t : List ℕ). take r.used piece' ++ rest_of (held r.state ids' lens') t) (sym (append-nil (drop r.taken rest)))
            ∙ d.told.joined [] ∙ ap (rest_of (held s ids lens)) (append-nil rest);
        goes_on = d.goes_on;
        moves = inr (d.moves room (omega (arith, some, length-drop taken log)));
      }

  pub moved_last : (rest : List ℕ) → length rest ≡ 0 → (ids' ≡ ids) × (lens' ≡ lens) → CloseOf s ids lens piece r piece'
      → Moved s ids lens rest piece r ids' lens' piece'
  moved_last (x ∷ l) e q p = absurd (omega (arith, e))
  moved_last [] e q p =
      let d = p.done (p.code ∙ z) in
      record {
        within = omega (arith, d.none);
        fits = d.closed.fits;
        joined =
            ap (λ (n : ℕ). take r.used piece' ++ rest_of (held r.state ids' lens') (drop n [])) d.none
            ∙ ap₂ (λ (i l : List ℕ). take r.used piece' ++ rest_of (held r.state i l) []) q.0 q.1 ∙ d.closed.joined;
        goes_on = ap₂ (λ (i l : List ℕ). feed_code r.state i l) q.0 q.1 ∙ d.goes_on;
        moves = inl (d.ends room);
      }

-- ---- All of them

-- what is written so far, and what is left, is the listing
pub record SoFar (log before : List ℕ) (s : State) (ids lens : List ℕ) (taken end : ℕ) (out : List ℕ) : Type 0 where
  pub text : List ℕ
  pub written : Written before 0 text end out
  pub joined : text ++ rest_of (held s ids lens) (drop taken log) ≡ listing_of log
  pub fits : end ≤ length before
  pub same : length out ≡ length before

pub nothing_yet : (log out ids lens : List ℕ) → SoFar log out before_first ids lens 0 0 out
nothing_yet log out ids lens = record { text = []; written = none out 0; joined = before_first_rest log ids lens; fits = omega arith; same = refl }

-- between two pieces
pub record Going (log piece₀ out₀ piece out ids lens : List ℕ) (s : State) (taken end : ℕ) : Type 0 where
  pub ids_all : length ids ≡ 2048
  pub lens_all : length lens ≡ 2048
  pub roomy : 64 ≤ length piece
  pub as_long : length piece ≡ length piece₀
  pub code : feed_code s ids lens ≡ 0
  pub within : taken ≤ length log
  pub so_far : SoFar log out₀ s ids lens taken end out

-- A piece takes something of the log, unless the listing is over with it.
pub must_move : (log : List ℕ) (taken : ℕ) (s : State) (ids lens piece : List ℕ) (r : Piece) (ids' lens' piece' : List ℕ) → taken ≤ length log
    → Moved s ids lens (drop taken log) piece r ids' lens' piece' → r.state.over ≡ false
    → (length log - (taken + r.taken) < length log - taken) × (taken + r.taken ≤ length log)
must_move log taken s ids lens piece r ids' lens' piece' h d e = go d.moves
  where
    go : (r.state.over ≡ true) ⊎ (0 < r.taken) → (length log - (taken + r.taken) < length log - taken) × (taken + r.taken ≤ length log)
    go (inl q) = absurd (true≢false (sym q ∙ e))
    go (inr m) = (omega (arith, m, d.within, length-drop taken log, h), omega (arith, d.within, length-drop taken log, h))

-- a buffer for a piece that is too short for a line
pub no_room : (log piece out : List ℕ) → length piece < 64 → Listed log piece out 0 out
no_room log piece out h =
    record {
      front = record { counts = refl; text = refl; rest = refl };
      whole =
          λ (r : 64 ≤ length piece) (f : length (listing_of log) ≤ length out). omega (arith, h, r);
    }

module _ (log before : List ℕ) (s : State) (ids lens : List ℕ) (taken end : ℕ) (out : List ℕ) (f : SoFar log before s ids lens taken end out) where
  abbrev left : List ℕ
  left = rest_of (held s ids lens) (drop taken log)

  text_length : length f.text ≡ end
  text_length = omega (arith, f.written.ends)

  -- what is written so far is the front of the listing
  pub stopped : Line before (take end (listing_of log)) end out
  stopped =
      subst_line (sym (ap (take end) (sym f.joined) ∙ take_at f.text left end text_length))
      (from_front before f.text out end (omega (arith, text_length, f.fits)) f.written)
    where
      subst_line : {x y : List ℕ} → x ≡ y → Line before x end out → Line before y end out
      subst_line e l = record { counts = l.counts ∙ ap length e; text = l.text ∙ e; rest = l.rest }

  module _ (piece : List ℕ) (r : Piece) (ids' lens' piece' : List ℕ) (d : Moved s ids lens (drop taken log) piece r ids' lens' piece')
      (same! : length piece' ≡ length piece) where
    abbrev after : List ℕ
    after = rest_of (held r.state ids' lens') (drop r.taken (drop taken log))

    used_length : length (take r.used piece') ≡ r.used
    used_length = length-take-le r.used piece' (omega (arith, d.fits, same!))

    left_length : length left ≡ r.used + length after
    left_length = ap length (sym d.joined) ∙ length-append (take r.used piece') after ∙ ap (λ (n : ℕ). n + length after) used_length

    listing_length : length (listing_of log) ≡ end + (r.used + length after)
    listing_length =
        ap length (sym f.joined) ∙ length-append f.text left ∙ ap (λ (n : ℕ). n + length left) text_length ∙ ap (λ (n : ℕ). end + n) left_length

    -- the piece has no room: the listing is longer than the buffer
    pub too_long : length out - end < r.used → (piece₀ : List ℕ) → Listed log piece₀ before end out
    too_long h piece₀ =
        record {
          front = stopped;
          whole =
              λ (a : 64 ≤ length piece₀) (b : length (listing_of log) ≤ length before). omega (arith, h, b, listing_length, f.same);
        }

    pub piece_room : r.used ≤ length out - end → end + length (take r.used piece') ≤ length out
    piece_room h = omega (arith, h, used_length, f.fits, f.same)

    module _ (h : r.used ≤ length out - end) (end' : ℕ) (out' : List ℕ) (w : Written out end (take r.used piece') end' out')
        (same' : length out' ≡ length out) where
      ends : end' ≡ end + r.used
      ends = w.ends ∙ ap (λ (n : ℕ). end + n) used_length

      pub one_more : SoFar log before r.state ids' lens' (taken + r.taken) end' out'
      one_more = record {
        text = f.text ++ take r.used piece';
        written = then f.text (take r.used piece') f.written w;
        joined =
            ap (λ (x : List ℕ). (f.text ++ take r.used piece') ++ rest_of (held r.state ids' lens') x) (sym (drop-drop r.taken taken log))
            ∙ append_assoc f.text (take r.used piece') after ∙ ap (λ (t : List ℕ). f.text ++ t) d.joined ∙ f.joined;
        fits = omega (arith, ends, h, f.fits, f.same);
        same = same' ∙ f.same;
      }

      pub all_written : r.state.over ≡ true → (piece₀ : List ℕ) → Listed log piece₀ before end' out'
      all_written e piece₀ = record { front = front!; whole = λ (a : 64 ≤ length piece₀) (b : length (listing_of log) ≤ length before). end_length }
        where
          text! : f.text ++ take r.used piece' ≡ listing_of log
          text! =
              ap (λ (t : List ℕ). f.text ++ t)
              (sym (append-nil (take r.used piece'))
              ∙ ap (λ (t : List ℕ). take r.used piece' ++ t) (sym (over_rest (held r.state ids' lens') e (drop r.taken (drop taken log)))) ∙ d.joined)
              ∙ f.joined

          wrote : Written before 0 (f.text ++ take r.used piece') end' out'
          wrote = then f.text (take r.used piece') f.written w

          end_length : end' ≡ length (listing_of log)
          end_length = omega (arith, wrote.ends, ap length text!)

          whole_text : f.text ++ take r.used piece' ≡ take end' (listing_of log)
          whole_text = text! ∙ sym (ap (λ (n : ℕ). take n (listing_of log)) end_length ∙ take-length (listing_of log))

          front! : Line before (take end' (listing_of log)) end' out'
          front! =
              let l = from_front before (f.text ++ take r.used piece') out' end' (omega (arith, wrote.ends, ends, h, f.fits, f.same)) wrote in
              record { counts = l.counts ∙ ap length whole_text; text = l.text ∙ whole_text; rest = l.rest }
