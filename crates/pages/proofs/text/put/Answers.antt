-- The bytes stand between what is before them and what is behind.
use Rattle.std.proofs.Common.{rules}
use lib.Seq.{drop-drop}
use Rattle.laws.specs.Overlay.{put_at}
use Rattle.pages.proofs.text.put.Goals as goal

pub returns : goal.returns
unfolding put_at
returns c =
    let a = c.args in
    record {
      bytes = search (c.copy_from_slice.ensures.after, drop-drop, rules);
      ends = search rules;
      within = c.requires;
    }
