-- A field done and shown is a field played by the rules: what the step tells gives the line and the bytes sent.
use mathlib.Core.Path.{◌≡◌, refl, sym, ap, subst, ◌∙◌}
use mathlib.Core.Bool.{Bool, true, false, not, true≢false, false≢true}
use mathlib.Core.List.{List, []}
use Prim.Native.Nat.{ℕ, ◌+◌, ◌≤◌}
use native.Mathlib.Nat.{add-zero}
use native.Mathlib.Omega.{arith}
use lib.Dec.{eqb}
use Rattle.rules.specs.Board
use Rattle.rules.specs.Board.{bytes_charged}
use Rattle.rules.specs.Choice.{Out, refused, done, taken, sent, Sending}
use Rattle.rules.specs.Calls.{serve!, step, told, code_of}
use Rattle.rules.specs.Runs.{bytes_of}
use Rattle.board.specs.Reading.{view}
use Rattle.board.specs.Memory.{Holding, holding}
use Rattle.board.proofs.Sound.{fit_view}
use Rattle.log_bytes.specs.declared.Event.{Event}
use Rattle.log_bytes.specs.declared.Event.TheVariants.{Largest, Open, Close, Rename, Arrive, Serve, Passed}
use Rattle.log_bytes.specs.Format.{is_l}
use Rattle.std.specs.Prelude.{Option}
use Rattle.units.specs.declared.Bytes.{Bytes}
use Rattle.lines.specs.declared.Line.{Line}
use Rattle.lines.specs.Text.{Written}
use Rattle.lines.proofs.Texts.{none}
use Rattle.lines.specs.Listing.{out_line, refused_line}
use Rattle.listing_rules.specs.Listing.{Playing, played, field_line, served_line}
use Rattle.listing_rules.specs.Events.{turn_of}
use Rattle.serving.specs.Serving.{Step}
use Rattle.events.specs.Events.{told_by, SendSeen, Acted}
use Rattle.events.proofs.Events.{serves_to, serves_to_lem, inside}
use Rattle.fields.specs.Fields.{Memory, memory, reads, KnownMemory, FieldPlayed, event_line, shown_text}

-- ---- The bytes sent

-- what is told of a turn's bytes is what its answer says
told_bytes : (m : Board.Board) (o : Out) → (told_by o).bytes ≡ bytes_of (told m o)
unfolding bytes_charged
told_bytes m (refused code) = refl
told_bytes m done = refl
told_bytes m (taken a) = refl
told_bytes m (sent x) = refl

-- a field played, by its turn
played_is : (p : Playing) (e : Event) → is_l e ≡ false
    → let t = turn_of p.board e in played p e ≡ record { board = t.next; sent = p.sent + bytes_of (told p.board t.out) }
played_is p (Largest l) e = absurd (true≢false e)
played_is p (Open o) e = refl
played_is p (Close block) e = refl
played_is p (Rename old new) e = refl
played_is p (Arrive block number bytes) e = refl
played_is p Serve e = refl
played_is p Passed e = λ j. record { board = p.board; sent = sym (add-zero p.sent) j }

-- ---- The line

module _ (m : Board.Board) (n : Holding) where
  -- of a field by what the rules say of it, shown from what stands in n
  abbrev ruled_line : Event → Out → List ℕ
  ruled_line e o =
      event_line n.board.numbers n.ids n.lens e (code_of (told m o)) (told_by o).place (told_by o).entry (told_by o).clock

  serve_line : (o : Out) → serves_to o ≡ true → ((x : Sending) → o ≡ sent x → SendSeen m x n) → ruled_line Serve o ≡ served_line (told m o)
  serve_line (refused code) r seen = go (eqb code 0) refl r
    where
      go : (t : Bool) → eqb code 0 ≡ t → not t ≡ true → ruled_line Serve (refused code) ≡ refused_line code
      go true e q = absurd (false≢true q)
      go false e q = rw e refl
  serve_line done r seen = absurd (false≢true r)
  serve_line (taken a) r seen = absurd (false≢true r)
  serve_line (sent x) r seen = let y = seen x refl in λ j. out_line (y.block j) (y.number j) (y.bytes j) x.clock

  line_is : (sum : ℕ) (e : Event) → is_l e ≡ false → serves_to (step m serve!).out ≡ true
      → ((x : Sending) → (turn_of m e).out ≡ sent x → SendSeen m x n)
      → ruled_line e (turn_of m e).out ≡ field_line (record { board = m; sent = sum }) e
  line_is sum (Largest l) e r seen = absurd (true≢false e)
  line_is sum (Open o) e r seen = refl
  line_is sum (Close block) e r seen = refl
  line_is sum (Rename old new) e r seen = refl
  line_is sum (Arrive block number bytes) e r seen = refl
  line_is sum Serve e r seen = serve_line (step m serve!).out r seen
  line_is sum Passed e r seen = refl

-- no line
pub no_line : (out : List ℕ) (used : ℕ) → Written out used [] used out × (used ≤ used + 64)
no_line out used = (none out used, omega arith)

-- ---- A FIELD PLAYED: done, shown, and its bytes added

pub field_plays : (s : Memory) → KnownMemory s → (e : Event) → is_l e ≡ false
    → (n : Holding) (r : Step) → Acted (holding s.board s.ids s.lens) e n r
    → (line : Option Line) → shown_text line ≡ event_line n.board.numbers n.ids n.lens e r.code r.place r.entry r.slot_clock
    → (charge : Bytes) → charge ≡ r.bytes
    → (before : List ℕ) (used used' : ℕ) (after : List ℕ) → Written before used (shown_text line) used' after × (used' ≤ used + 64)
    → FieldPlayed s e (memory n.board n.ids n.lens (s.sent + charge.0)) before used used' after
field_plays s k e not-l n r a line shown charge charged before used used' after (w, few) = record {
  good = a.good;
  next = (λ j. record { board = a.next j; sent = s.sent + bytes_is j }) ∙ sym (played_is (reads s) e not-l);
  written = subst (λ (t : List ℕ). Written before used t used' after) (shown ∙ ap shows a.tells ∙ line_is m n s.sent e not-l serves a.sends) w;
  short = few;
  more = omega (arith, ap (λ (x : Bytes). x.0) charged, (inside _ e n r a).few);
}
  where
    m : Board.Board
    m = view s.board s.ids s.lens

    bytes_is : charge.0 ≡ bytes_of (told m (turn_of m e).out)
    bytes_is = ap (λ (x : Bytes). x.0) charged ∙ ap (λ (v : Step). v.bytes.0) a.tells ∙ told_bytes m (turn_of m e).out

    shows : Step → List ℕ
    shows v = event_line n.board.numbers n.ids n.lens e v.code v.place v.entry v.slot_clock

    serves : serves_to (step m serve!).out ≡ true
    serves = serves_to_lem m (fit_view s.board s.ids s.lens k.sound).tidy
