-- The stages that a readable file passed.
--     stages_of      from the reading answered
-- Assumes nothing.
use mathlib.Core.Path.{◌≡◌, subst}
use mathlib.Core.List.{List}
use Prim.Native.Nat.{ℕ}
use Rattle.std.specs.declared.result.Result.TheVariants.{Ok}
use Rattle.records.specs.Walk.{Walked}
use Rattle.shapes.specs.declared.Outline.{Outline}
use Rattle.parsing.specs.Outline.{parsed_of}
use Rattle.records.proofs.Laws.Walk.{First, then_ends}
use Rattle.parsing.proofs.Laws.Outline.{Parses, parses}
use Rattle.reading.specs.States.{states_of}
use Rattle.reading.specs.Picks.{picks_of}
use Rattle.intervals.specs.Interval.{intervals_of}
use Rattle.reading.specs.Edge.{rules_of, doubles_of}
use Rattle.reading.specs.Read.{stages_read, read_of}

-- a stage that refuses nothing
pub record Ends (w : Walked) : Type 0 where
  pub end : ℕ
  pub is : w ≡ Ok end

-- so it is with one that the next stage follows
ends : {A : Type 0} {w : Walked} {next : ℕ → A} {answer : A} → First w next answer → Ends w
ends f = record { end = f.mid; is = f.first }

-- what a readable file passed
pub record Stages (file : List ℕ) (o : Outline) : Type 0 where
  pub parsed : Parses file o
  pub states : Ends (states_of file o.vars 0 1)
  pub picks : Ends (picks_of file)
  pub intervals : Ends (intervals_of file)
  pub rules : Ends (rules_of file o)
  pub doubles : Ends (doubles_of file o)

module _ (file : List ℕ) (o : Outline) where
  pub stages_of : read_of file ≡ Ok o → Stages file o
  unfolding read_of stages_read
  stages_of e =
      let p = then_ends (parsed_of file) e in
      let s = then_ends (states_of file p.mid.vars 0 1) p.rest in
      let k = then_ends (picks_of file) s.rest in
      let i = then_ends (intervals_of file) k.rest in
      let r = then_ends (rules_of file p.mid) i.rest in
      let d = then_ends (doubles_of file p.mid) r.rest in
      let same : p.mid ≡ o = cc in
      subst (Stages file) same
      (record {
        parsed = parses file p.mid p.first;
        states = ends s;
        picks = ends k;
        intervals = ends i;
        rules = ends r;
        doubles = ends d;
      })
