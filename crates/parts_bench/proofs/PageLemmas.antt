-- The pages of 64 objects of 64 pages each.
use Rattle.std.proofs.Common.{◌≡◌, ℕ, ◌<◌, replicate, length, get_or, ap, arith}
use Rattle.std.proofs.lemmas.List.{length-replicate, get_or-replicate}
use Rattle.page_queues.specs.Pages.{Pages, IsPage}

pub is_page : (pages : Pages) (o p : ℕ) → pages.sizes ≡ replicate 64 64 → o < 64 → p < 64 → IsPage pages (record { obj = o; page = p })
is_page pages o p sizes object page = record {
  object = omega (arith, ap length sizes, length-replicate {A = ℕ} 64 64);
  inside = omega (arith, ap (λ s. get_or s o 0) sizes, get_or-replicate {A = ℕ} 64 o 64 0 object);
}
