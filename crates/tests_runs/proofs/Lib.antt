mod ArcOffers
