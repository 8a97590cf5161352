-- Lists that are opened, and standard input that is named twice.
use Rattle.std.proofs.Common.{◌≡◌, ◌≢◌, ◌∙◌, refl, ap, sym, subst, ℕ, List, Option, Some, None, codes, rules}
use Rattle.std.specs.Borrow.{Bor}
use Rattle.sp_device.specs.declared.devices.Read.{Ghosts as Reader}
use Rattle.sp_jobs.specs.Places.{AreNumbered}
use Rattle.sp_jobs.specs.declared.listing.Listing.TheVariants as listing
use Rattle.sp_jobs.specs.Listing.{These}
use Rattle.sp_options.specs.declared.given.Given.{Given}
use Rattle.sp_options.specs.declared.sources.Sources.{Sources}
use Rattle.sp_options.specs.declared.sources.Sources.TheVariants as sources
use Rattle.sp_command.specs.declared.faults.FileKind.{FileKind}
use Rattle.sp_command.specs.declared.faults.FileKind.TheVariants as file
use Rattle.sp_command.specs.Scene.{Files}
use Rattle.sp_command.specs.Causes.{Paths, NamesInputTwice}
use Rattle.sp_cli.specs.Told.{IsOpenedList}
use Rattle.sp_cli.specs.Commands.{paths_in}

module _ (graph : List ℕ) (paths : Paths) where
  -- The graph is standard input, and so is another file.
  with_graph : (kind : FileKind) → file.Graph ≢ kind → graph ≡ codes "-" → paths_in graph paths kind ≡ Some (codes "-") → NamesInputTwice (paths_in graph paths)
  with_graph kind apart named is = (file.Graph, kind, apart, ap Some named, is)

  pub with_sources : graph ≡ codes "-" → paths file.Sources ≡ Some (codes "-") → NamesInputTwice (paths_in graph paths)
  with_sources named is = with_graph file.Sources (search rules) named is

  pub with_targets : graph ≡ codes "-" → paths file.Targets ≡ Some (codes "-") → NamesInputTwice (paths_in graph paths)
  with_targets named is = with_graph file.Targets (search rules) named is

  pub with_pairs : graph ≡ codes "-" → paths file.Pairs ≡ Some (codes "-") → NamesInputTwice (paths_in graph paths)
  with_pairs named is = with_graph file.Pairs (search rules) named is

  pub both_lists : paths file.Sources ≡ Some (codes "-") → paths file.Targets ≡ Some (codes "-") → NamesInputTwice (paths_in graph paths)
  both_lists sources_is targets_is = (file.Sources, file.Targets, search rules, sources_is, targets_is)

pub opened_file : {D : Type 0} (device : Reader D) (files : Files) (list : Sources) (path : Bor (List ℕ)) (opened : D)
    → list ≡ sources.File path → ((bytes : List ℕ) → files.text path.now ≡ Some bytes → device.left opened ≡ Some bytes) → device.failing opened ≡ files.failing path.now
    → IsOpenedList device files list (listing.InText opened None)
opened_file device files list path opened is gives fails = subst (λ l. IsOpenedList device files l (listing.InText opened None)) (sym is) (record {
  asks = λ text. refl;
  gives = gives;
  numbered = tt;
  refusable = λ e may. (path.now, refl, λ read never. may read (fails ∙ never));
})

pub opened_part : {D : Type 0} (device : Reader D) (files : Files) (list : Sources) (path : Bor (List ℕ)) (places : Option (ℕ × ℕ)) (opened : D)
    → list ≡ sources.Part path places → ((bytes : List ℕ) → files.text path.now ≡ Some bytes → device.left opened ≡ Some bytes) → device.failing opened ≡ files.failing path.now
    → IsOpenedList device files list (listing.InText opened places)
opened_part device files list path places opened is gives fails = subst (λ l. IsOpenedList device files l (listing.InText opened places)) (sym is) (record {
  asks = λ text. refl;
  gives = gives;
  numbered = tt;
  refusable = λ e may. (path.now, refl, λ read never. may read (fails ∙ never));
})

pub opened_given : {D : Type 0} (device : Reader D) (files : Files) (list : Sources) (given : Given) (numbers : Bor (List ℕ))
    → list ≡ sources.Given given → numbers.now ≡ given.list.items → AreNumbered given.list.items
    → IsOpenedList device files list (listing.These numbers)
opened_given device files list given numbers is same numbered = subst (λ l. IsOpenedList device files l (listing.These numbers)) (sym is) (record {
  asks = λ text. ap These same;
  gives = λ text has. tt;
  numbered = subst AreNumbered (sym same) numbered;
  refusable = λ e may. absurd may;
})
