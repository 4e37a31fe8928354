-- Even first keys start every house, and a line that gives a first key for each site gives as many as sites.
use Rattle.std.proofs.Common.{◌≡◌, true, sym, arith, rules, eq-eqb}
use Rattle.rules.specs.House.{count_ok}
use Rattle.rules.specs.HouseLaws.{count_clear}
use Rattle.routing.specs.Open.{table_given, even_starts}
use Rattle.routing.proofs.open.check_open.Goals as goal

pub returns-then-given-eq0 : goal.returns-then-given-eq0
unfolding table_given
returns-then-given-eq0 c =
    let e : count_ok c.args.n ≡ true = search rules in
    rw (eq-eqb _ 0 c.if-given-eq0.true) (sym (even_starts _ e))

pub table_ok-requires : goal.table_ok-requires
table_ok-requires c =
    let e : count_ok c.args.n ≡ true = search rules in
    let k = count_clear c.args.n e in
    (k.0, k.1, omega arith)
