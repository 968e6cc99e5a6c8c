-- Demand 2: the story of every block is accounted for.
use mathlib.Core.Path.{◌≡◌, refl, sym, ap, ap₂, ◌∙◌}
use mathlib.Core.Bool.{Bool, true, false, true≢false, false≢true}
use mathlib.Core.List.{List, [], ◌∷◌, ◌++◌, append_assoc, append-nil}
use Prim.Native.Nat.{ℕ, ◌+◌}
use native.Mathlib.Omega.{arith}
use lib.ListN.{length, get_or, set}
use lib.Seq.{get_or-set_same}
use Rattle.base.proofs.Numbers.{eqb_yes}
use Rattle.rules.specs.Board.{Record, Place, free_place, Board, at, Has}
use Rattle.rules.specs.Choice.{Out, refused, done, taken, sent, Turn, go_on}
use Rattle.rules.specs.Blocks.{Opening, opened, free_at}
use Rattle.rules.specs.Calls.{Single, open!, step, told, code_of}
use Rattle.rules.specs.Runs.{play, answer, closes, taken_for, is_for, sent_for, Story, begins, tells, story}
use Rattle.rules.specs.Promises.{Accounted}
use Rattle.rules.proofs.Turns.{from_place}
use Rattle.rules.proofs.Tidy.{Tidy}
use Rattle.rules.proofs.TidyCalls.{tidy_step}
use Rattle.rules.proofs.Conserve.{took_one, sent_one, flow_step}
use Rattle.rules.proofs.Cases.{refusal_not0, CanOpen, open_cases}
use Rattle.rules.proofs.Names.{Follows, follows, has_find, has_lane}
use Rattle.rules.proofs.Unspoilt.{tidy_play}

sent_for_lem : (b : Board) (n p : ℕ) (o : Out) → is_for n (told b o) ≡ from_place p o → sent_for n (told b o) ≡ sent_one p o
sent_for_lem b n p (refused code) e = refl
sent_for_lem b n p done e = refl
sent_for_lem b n p (taken a) e = refl
sent_for_lem b n p (sent s) e = rw e

no_length : (l : List Record) → length l ≡ 0 → l ≡ []
no_length [] e = refl
no_length (x ∷ xs) e = absurd (omega arith)

-- a story so far, for the block at p
record AccountedAt (s : Story) (b : Board) (p : ℕ) : Type 0 where
  when_closed : s.closed ≡ true → s.taken ≡ s.sent
  when_open : s.closed ≡ false → Has b p s.number × (s.taken ≡ s.sent ++ (at b p).lane)

told_step : (s : Story) (b : Board) (p : ℕ) (x : Single) → Tidy b → AccountedAt s b p → AccountedAt (tells s.closed s x (answer b x)) (step b x).next p
told_step s b p x g t = go s.closed refl
  where
    nb : Board
    nb = (step b x).next

    go : (c : Bool) → s.closed ≡ c → AccountedAt (tells c s x (answer b x)) nb p
    go true e = record { when_closed = λ _. t.when_closed e; when_open = λ f. absurd (true≢false (sym e ∙ f)) }
    go false e = record { when_closed = shut; when_open = λ c. ((f.stays c).0, goes) }
      where
        h : Has b p s.number
        h = (t.when_open e).0

        f : Follows b p s.number x (step b x)
        f = follows b p s.number g h x

        -- what was taken in and sent by this call, at the block's place
        goes : s.taken ++ taken_for s.number x (answer b x) ≡ (s.sent ++ sent_for s.number (answer b x)) ++ (at nb p).lane
        goes =
            ap₂ (λ (u v : List Record). u ++ v) (t.when_open e).1 f.took
            ∙ append_assoc s.sent (at b p).lane (took_one p b x (step b x).out)
            ∙ ap (λ (u : List Record). s.sent ++ u)
            (flow_step b x g p ∙ ap (λ (u : List Record). u ++ (at nb p).lane) (sym (sent_for_lem b s.number p (step b x).out f.sent)))
            ∙ sym (append_assoc s.sent (sent_for s.number (answer b x)) (at nb p).lane)

        shut : closes s.number x (answer b x) ≡ true → s.taken ++ taken_for s.number x (answer b x) ≡ s.sent ++ sent_for s.number (answer b x)
        shut c = goes ∙ ap (λ (u : List Record). (s.sent ++ sent_for s.number (answer b x)) ++ u) (no_length (at nb p).lane (f.ends c).1) ∙ append-nil _

told_story : (s : Story) (b : Board) (p : ℕ) (xs : List Single) → Tidy b → AccountedAt s b p → AccountedAt (story s b xs) (play b xs) p
unfolding story play
told_story s b p [] g t = t
told_story s b p (x ∷ xs) g t = told_story (tells s.closed s x (answer b x)) (step b x).next p xs (tidy_step b x g) (told_step s b p x g t)

-- an opening that is done gives the block a place with an empty lane
abbrev pub OpenedBy : Board → Opening → Turn → Type 0
OpenedBy b o t = code_of (told b t.out) ≡ 0 → (p : ℕ) × (Has t.next p o.number) × (at t.next p ≡ opened o)

pub opened_by_lem : (b : Board) → Tidy b → (o : Opening) → OpenedBy b o (step b (open! o))
opened_by_lem b g o = open_cases b o (OpenedBy b o) (λ code r e. absurd (true≢false (sym (eqb_yes code 0 e) ∙ refusal_not0 code r))) opens
  where
    opens : CanOpen b o → OpenedBy b o (record { out = done; next = go_on b (free_at b) (opened o) })
    opens c e =
        (free_at b, record { inside = c.inside; bought = rw (ap (λ (x : Place). x.share) here) c.share; named = ap (λ (x : Place). x.number) here }, here)
      where
        here : get_or (set b.places (free_at b) (opened o)) (free_at b) free_place ≡ opened o
        here = get_or-set_same b.places (free_at b) (opened o) free_place (omega (arith, c.inside, g.shape.all64))

pub conserved : (b : Board) → Tidy b → (o : Opening) (after : List Single) → code_of (answer b (open! o)) ≡ 0
    → Accounted (story (begins o.number) (step b (open! o)).next after) (play (step b (open! o)).next after)
conserved b g o after e = go (opened_by_lem b g o e)
  where
    nb : Board
    nb = (step b (open! o)).next

    gb : Tidy nb
    gb = tidy_step b (open! o) g

    go : (p : ℕ) × (Has nb p o.number) × (at nb p ≡ opened o) → Accounted (story (begins o.number) nb after) (play nb after)
    go (p, h, l) =
        record {
          when_closed = t.when_closed;
          when_open =
              λ c. (
                (p, has_find (play nb after) p _ ge (t.when_open c).0),
                (t.when_open c).1 ∙ ap (λ (u : List Record). (story (begins o.number) nb after).sent ++ u)
                    (sym (has_lane (play nb after) p _ ge (t.when_open c).0)),
              );
        }
      where
        t : AccountedAt (story (begins o.number) nb after) (play nb after) p
        t =
            told_story (begins o.number) nb p after gb
            (record { when_closed = λ f. absurd (false≢true f); when_open = λ _. (h, sym (ap (λ (x : Place). x.lane) l)) })

        ge : Tidy (play nb after)
        ge = tidy_play nb after gb
