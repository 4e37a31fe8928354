-- `decimal` puts the digits into a local text, of which as many as there are go on the page.
use Rattle.std.proofs.Common.{◌≡◌, ◌∙◌, take}
use Rattle.pages.specs.Line.{decimal_of}
use Rattle.pages.proofs.Digits.{decimal_is}
use Rattle.pages.proofs.text.digits.Goals as goal

pub returns-clause-laid : goal.returns-clause-laid
returns-clause-laid c =
    let d = c.decimal-k in
    let spelled : take d.result d.new.out ≡ decimal_of c.args.n = d.ensures.digits ∙ decimal_is c.args.n d.result c.ranges.n.fits d.ensures.len in
    rw spelled at c.put.ensures
