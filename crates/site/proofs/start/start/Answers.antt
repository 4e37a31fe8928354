-- Refused, or a fresh core and every lent word 0.
use Rattle.std.proofs.Common.{ℕ, ◌≡◌, ◌∙◌, sym, ap, List, length, replicate}
use Rattle.kinds.specs.Refusal.{number_of}
use Rattle.kinds.specs.declared.refusal.Refusal.{Refusal}
use Rattle.kinds.specs.declared.House.{House}
use Rattle.kinds.specs.declared.Core.{Core}
use Rattle.kinds.specs.declared.Answer.TheVariants.{Done}
use Rattle.rules.specs.House.{house_of}
use Rattle.rules.specs.Install.{start_table}
use Rattle.lent.specs.Fresh.{Started, fresh_core, started_code, started_fits, started_fresh, started_refused}
use Rattle.lent.specs.Laws.{Lengths}
use Rattle.lent.specs.Lent.{lent_ok, lent_sites}
use Rattle.shell.proofs.Refusals.{caused, stopped}
use Rattle.site.proofs.start.start.Goals as goal

-- words of the right lengths leave the number of sites as it is
same_sites : (sites : ℕ) (w h : List ℕ) → Lengths w h → lent_sites sites (length w) (length h) ≡ sites
unfolding lent_sites lent_ok
same_sites sites w h l = rw (l.live, l.history)

fresh : (sites : ℕ) (table : List ℕ) (own : ℕ) (w h : List ℕ) (b l : ℕ) (core : Core) (v g : List ℕ)
    → started_code sites table own w h b l ≡ 0 → core ≡ fresh_core (house_of sites table) own
    → v ≡ replicate (length w) 0 → g ≡ replicate (length h) 0
    → Started sites table own w h b l (record { answer = Done; words = 0; core = core }) v g
fresh sites table own w h b l core v g z e f q = rw (e, f, q) (started_fresh sites table own w h b l z)

-- a lent table after it
zeroed : (code : ℕ) (d v : List ℕ) → code ≡ 0 → v ≡ replicate (length d) 0 → v ≡ start_table code d
unfolding start_table
zeroed code d v z e = rw z e

kept : (cause : Refusal) (code : ℕ) (d : List ℕ) → number_of cause ≡ code → d ≡ start_table code d
unfolding start_table
kept cause code d e = rw (stopped cause code e)

pub returns-in-Err : goal.returns-in-Err
returns-in-Err c =
    let a = c.args in
    let cause = c.in-Err.cause in
    let first = rw c.lent_sites-count.ensures at c.in-Err.ensures.code in
    record {
      started =
          rw c.unstarted.ensures
          (started_refused a.sites a.firsts.now a.own a.live.now a.history.now _ _ (number_of cause) first (caused cause));
      base_after = kept cause _ a.base.now first;
      lists_after = kept cause _ a.lists.now first;
    }

pub returns : goal.returns
returns c =
    let a = c.args in
    let clear = sym (rw c.lent_sites-count.ensures at c.in-Ok.ensures.code) in
    let l = (started_fits a.sites a.firsts.now a.own a.live.now a.history.now _ _ clear).lengths in
    let count = c.lent_sites-count.ensures ∙ same_sites a.sites a.live.now a.history.now l in
    let house = c.in-Ok.ensures.house ∙ ap (λ (n : ℕ). house_of n a.firsts.now) count in
    let core = c.fresh_core.ensures ∙ ap (λ (o : House). fresh_core o a.own) house in
    record {
      started = fresh a.sites a.firsts.now a.own a.live.now a.history.now _ _ _ _ _ clear core c.fill_words.ensures c.fill_words-2.ensures;
      base_after = zeroed _ a.base.now _ clear c.fill_words-3.ensures;
      lists_after = zeroed _ a.lists.now _ clear c.fill_words-4.ensures;
    }
