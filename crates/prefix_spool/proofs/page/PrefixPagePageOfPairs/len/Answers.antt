use Rattle.std.proofs.Common.{sym, ap, ◌∙◌, length}
use Rattle.run_spool.specs.Pages.{PageValue}
use Rattle.prefix_spool.proofs.Marked.{left_count}
use Rattle.prefix_spool.proofs.page.PrefixPagePageOfPairs.len.Goals as goal

pub returns : goal.returns
returns c = sym (left_count c.self.inside.page.bytes.value c.self.inside.marks) ∙ ap (λ (p : PageValue). length p.pairs) c.self.view_is
